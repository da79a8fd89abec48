pub mod Shores
pub mod Marks
pub mod Pools
pub mod Laws
pub mod Examples
