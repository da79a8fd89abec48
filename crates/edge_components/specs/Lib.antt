pub mod Parts
pub mod Components
pub mod Listing
pub mod Labels
pub mod Laws
pub mod Search
pub mod Examples
