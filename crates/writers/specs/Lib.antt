-- Writing house records.
pub mod Runs
pub mod Columns
pub mod Writing
pub mod Results
pub mod Trips
pub mod Inner
pub mod Units
