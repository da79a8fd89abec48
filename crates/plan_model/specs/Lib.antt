pub mod Sums
pub mod Plans
pub mod Verdicts
pub mod Passes
pub mod Laws
pub mod Offers
pub mod Examples
