pub mod Groups
pub mod Laws
pub mod Gathering
pub mod Examples
