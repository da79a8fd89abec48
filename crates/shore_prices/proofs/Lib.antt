pub mod Levels
pub mod Proposed
