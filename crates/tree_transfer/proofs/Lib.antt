pub mod Numbers
pub mod Chaining
pub mod Following
pub mod Leaves
pub mod CarriedTrees
pub mod Small
pub mod Rising
pub mod Needs
pub mod Rooms
pub mod Fitting
pub mod FixedRising
pub mod Edited
pub mod SmallStreets
mod Entries
mod Forests
mod LightSets
mod Marks
mod Moving
mod Nodes
mod SmallTrees
mod StandIns
mod Values
