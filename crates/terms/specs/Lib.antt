-- The paper's words: quantities and signs, and the numbers given back.
pub mod Quantities
pub mod Reply
pub mod Refusals
pub mod Checks
