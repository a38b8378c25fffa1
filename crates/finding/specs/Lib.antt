-- What a refusal names.
pub mod Near
pub mod Spots
pub mod Naming
pub mod Plants
pub mod Inner
