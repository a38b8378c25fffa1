-- What the exported calls tell.
pub mod Telling
