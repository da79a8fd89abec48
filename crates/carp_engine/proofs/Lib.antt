pub mod Sound
pub mod Groups
pub mod Certified
pub mod Terse
pub mod Olds
pub mod Better
pub mod Named
pub mod Turned
