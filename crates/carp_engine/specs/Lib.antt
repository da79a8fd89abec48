pub mod Solutions
pub mod Improved
pub mod Certifying
pub mod Turns
pub mod Asked
pub mod Known
pub mod Starts
