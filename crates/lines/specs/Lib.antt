-- The lines of the day list.
pub mod Lines
pub mod Inner
