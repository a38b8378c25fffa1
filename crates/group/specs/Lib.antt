-- The checks of Technical Rule 22 on one group, as document 01 condenses them.
pub mod Steps
pub mod Group
pub mod Columns
pub mod Accepted
pub mod Demand3
pub mod Ties
pub mod Inner
pub mod Figures
