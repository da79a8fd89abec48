pub mod Files
pub mod Codes
pub mod Reads
pub mod Edited
pub mod Stages
pub mod Inputs
pub mod Jobs
