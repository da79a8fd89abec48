pub mod Leaves
pub mod Offers
