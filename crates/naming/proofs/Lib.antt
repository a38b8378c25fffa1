-- Laws of a refusal in words.
pub mod Laying
pub mod Inside
