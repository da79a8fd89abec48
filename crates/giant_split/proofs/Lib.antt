pub mod Rising
pub mod Ending
pub mod Touring
pub mod Measuring
pub mod Growing
pub mod Exchanging
pub mod Reading
