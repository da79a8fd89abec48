pub mod Standings
pub mod Finding
pub mod Keeping
