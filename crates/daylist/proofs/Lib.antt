-- Laws of the day list program.
pub mod Buffers
pub mod Filling
pub mod Looping
pub mod Handed
pub mod Refusing
