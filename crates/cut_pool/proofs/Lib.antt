pub mod Crossing
pub mod Rising
pub mod Held
