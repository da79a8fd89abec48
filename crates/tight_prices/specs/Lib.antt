pub mod Tight
pub mod Fillings
pub mod Probes
pub mod Places
pub mod Searches
