-- A block: its units, and its result.
pub mod Checking
pub mod Blocks
pub mod Even
pub mod Laid
pub mod Inner
