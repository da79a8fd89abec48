pub mod Ranges
pub mod TourParts
pub mod Whole
pub mod SameServices
mod Preorders
mod Parts
mod Copying
