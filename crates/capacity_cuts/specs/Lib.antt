pub mod Violation
pub mod Network
pub mod Levels
pub mod Components
pub mod Laws
pub mod Lengths
pub mod Examples
