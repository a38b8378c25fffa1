-- Whole numbers, columns of them, their bytes and their digits.
pub mod Choice
pub mod Range
pub mod Column
pub mod Sum
pub mod Bytes
pub mod Fields
pub mod Decimal
