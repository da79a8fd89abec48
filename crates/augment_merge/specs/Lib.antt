pub mod Joins
pub mod Augmenting
pub mod Merging
pub mod Outlines
pub mod Absorbing
pub mod TourLaws
pub mod Examples
