pub mod Ties
pub mod Scans
pub mod Choosing
pub mod Cheapest
pub mod Examples
