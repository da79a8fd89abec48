pub mod Rounds
pub mod Refusals
pub mod Laws
pub mod Trails
pub mod Examples
