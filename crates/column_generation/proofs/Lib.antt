pub mod Surcharges
pub mod Offered
