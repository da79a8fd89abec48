pub mod Claims
pub mod Layers
pub mod Leaves
pub mod Nodes
pub mod Reasons
pub mod Walks
pub mod Streams
