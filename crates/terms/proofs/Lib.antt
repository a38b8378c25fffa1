-- Laws of replies, refusals and quantities.
pub mod Replies
pub mod Passing
pub mod FirstRefused
pub mod Scan
pub mod Same
pub mod Numbers
pub mod Considered
pub mod Classes
pub mod Sizes
