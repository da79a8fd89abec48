pub mod Splits
pub mod Legs
pub mod Cuts
pub mod Cutters
pub mod Exchanges
pub mod Examples
