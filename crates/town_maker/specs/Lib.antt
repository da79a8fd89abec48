pub mod Streets
pub mod Draws
pub mod Towns
pub mod Laws
