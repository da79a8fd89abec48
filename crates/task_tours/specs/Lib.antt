pub mod Shorts
pub mod ShortLaws
pub mod Tours
pub mod Laws
pub mod Joining
pub mod Examples
