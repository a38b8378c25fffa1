-- House records: their layouts, and reading them.
pub mod Layouts
pub mod Longest
pub mod Reading
pub mod Decoding
pub mod Inner
