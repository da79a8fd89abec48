pub mod Incidence
pub mod Lists
pub mod Search
