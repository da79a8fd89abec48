pub mod Joins
pub mod Laws
pub mod OddSets
pub mod Levels
pub mod Paths
pub mod Sets
pub mod Pairs
pub mod Examples
