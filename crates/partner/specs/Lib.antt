-- A partner's export: the form of a line, its limits, and what is written.
pub mod Form
pub mod Line
pub mod Inner
