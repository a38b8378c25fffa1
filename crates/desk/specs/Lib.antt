-- What the desk's screen program gets back.
pub mod Desk
pub mod Header
