-- Laws that the other crates share.
pub mod Integers
pub mod Choices
pub mod Columns
pub mod Filling
pub mod Updating
pub mod Sums
pub mod Laid
pub mod Trips
pub mod Digits
pub mod Spelling
pub mod ReadBack
