pub mod Programs
pub mod Tableaus
pub mod Examples
