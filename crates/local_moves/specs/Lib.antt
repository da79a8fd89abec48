pub mod Sequences
pub mod Loads
pub mod Stops
pub mod Changes
pub mod Offering
pub mod Examples
