-- What the lines of a day's text make, docs/TEXT.md.
pub mod Spot
pub mod Making
