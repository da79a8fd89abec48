pub mod Cutting
pub mod TourParts
pub mod Examples
pub mod Transfer
pub mod Known
pub mod Copies
