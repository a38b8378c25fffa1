-- Laws of the list's lines.
pub mod Pairs
pub mod Parts
pub mod Signs
pub mod Same
