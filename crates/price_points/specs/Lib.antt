pub mod Limits
pub mod Points
pub mod Problems
pub mod Services
pub mod Weights
