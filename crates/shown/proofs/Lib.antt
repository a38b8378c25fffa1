-- Laws of what is shown.
pub mod Few
pub mod Fits
pub mod Figures
pub mod Dates
pub mod Places
pub mod Shown
