pub mod FirstFit
pub mod Groups
pub mod States
pub mod Laws
pub mod Ranks
pub mod Packed
pub mod Examples
