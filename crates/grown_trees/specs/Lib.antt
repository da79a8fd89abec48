pub mod Places
pub mod Stands
pub mod Growth
pub mod Values
pub mod Laws
pub mod Backward
pub mod Blocks
pub mod Examples
