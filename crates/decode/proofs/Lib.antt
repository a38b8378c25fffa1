-- Laws of reading the units of a block.
pub mod Filling
pub mod Units
pub mod Looking
