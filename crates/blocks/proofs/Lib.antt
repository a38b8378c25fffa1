-- Laws of a block.
pub mod Laying
pub mod Sound
pub mod ByUnits
pub mod Telling
pub mod Passing
pub mod ReadBack
