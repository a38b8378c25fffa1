-- The day list: one step of it, and the whole.
pub mod Listing
pub mod Whole
