pub mod GroupTasks
pub mod GroupTours
pub mod Numbering
pub mod Packed
pub mod SmallPackings
