pub mod Shortfall
pub mod Tables
pub mod Examples
