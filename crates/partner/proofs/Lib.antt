-- Laws of a line: what the functions' proofs share; both round trips, and what follows of its length, its spelling and its limits.
pub mod Capped
pub mod Ends
pub mod Decimals
pub mod Amounts
pub mod Letters
pub mod Forms
pub mod Kept
pub mod Bounds
pub mod Lays
pub mod Numerals
pub mod Spelled
pub mod FieldTrips
pub mod RoundTrip
pub mod ReadBy
pub mod Lines
pub mod Unique
