-- The lines of a day's text, docs/TEXT.md.
pub mod Numbers
pub mod Dates
pub mod Fields
pub mod Line
