pub mod Solved
pub mod Bettered
pub mod Walks
pub mod Counted
