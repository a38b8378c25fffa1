-- Laws of the table and of the walk.
pub mod Bodies
pub mod Coming
pub mod UnitHeads
pub mod Places
pub mod Extents
pub mod Tiling
pub mod Gives
pub mod Visits
pub mod Local
pub mod Ahead
pub mod Unique
