-- The day list program: what it keeps, what a turn makes of it, and its runs.
pub mod Inner
pub mod Works
pub mod Runs
pub mod Saying
