-- A refusal in words.
pub mod Words
