-- The units of a block, read into columns.
pub mod Block
pub mod Inner
