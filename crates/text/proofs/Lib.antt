-- Laws of the text form.
pub mod Digits
pub mod Spaces
pub mod Same
pub mod Comments
pub mod Values
