-- A day, and what is offered to it.
pub mod Days
pub mod Checking
pub mod Outcome
pub mod Offers
pub mod Answered
pub mod WholeDays
pub mod Reached
pub mod Others
