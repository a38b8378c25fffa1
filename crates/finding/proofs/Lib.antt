-- Laws of what a refusal names.
pub mod Spots
pub mod Failing
pub mod Apart
pub mod Plants
