-- What the product promises.
pub mod Demands
