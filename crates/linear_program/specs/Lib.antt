pub mod Bases
pub mod Limits
pub mod Programs
pub mod Selections
pub mod Stores
