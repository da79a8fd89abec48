pub mod Paths
pub mod Searching
pub mod Listed
pub mod Borders
pub mod Rising
pub mod Kept
pub mod Tallying
pub mod Grouping
