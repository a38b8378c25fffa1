-- Laws of reading house records.
pub mod Checks
pub mod Fields
pub mod Heads
pub mod UnitHeads
pub mod Turns
pub mod Accepted
pub mod Marks
pub mod Working
pub mod Unique
pub mod Read
pub mod Ages
pub mod Places
pub mod Alike
pub mod Numbers
