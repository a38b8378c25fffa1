-- The Gregorian calendar.
pub mod Calendar
