-- The day list's DAY line with dates.
pub mod Shown
pub mod Inner
