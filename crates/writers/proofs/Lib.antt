-- Laws of the writers.
pub mod Writes
pub mod Runs
pub mod Accepted
pub mod Tables
pub mod Fields
pub mod UnitBytes
pub mod Lengths
pub mod Back
pub mod Again
pub mod BlockAgain
pub mod Unique
