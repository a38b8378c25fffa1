-- Laws of the calendar.
pub mod Begun
pub mod Lengths
pub mod Valid
pub mod Trips
pub mod Figures
