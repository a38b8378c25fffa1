-- The table of day state by record kind, and the walk over a day.
pub mod Table
pub mod Walk
pub mod Extents
pub mod Stands
