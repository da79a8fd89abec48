pub mod Adjacency
pub mod Examples
pub mod Flows
pub mod Laws
pub mod Layers
pub mod Residual
