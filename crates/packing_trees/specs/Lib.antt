pub mod Bundles
pub mod Trees
pub mod Reasons
pub mod Laws
pub mod Claims
pub mod Tables
pub mod Layers
pub mod Examples
