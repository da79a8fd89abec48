pub mod Groups
pub mod Points
