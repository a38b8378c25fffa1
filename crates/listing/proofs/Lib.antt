-- Laws of the day list.
pub mod Replies
pub mod Inside
pub mod Unique
pub mod Whole
