pub mod Served
pub mod Pushed
pub mod Placed
pub mod Listed
