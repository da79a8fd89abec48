mod Row
pub mod Chains
pub mod Cuts
pub mod Least
pub mod Listing
pub mod OnArcs
pub mod Pushes
pub mod Searching
pub mod Trying
pub mod Ways
