-- What the proof of the C call rests on.
pub mod First
pub mod Unique
pub mod Told
