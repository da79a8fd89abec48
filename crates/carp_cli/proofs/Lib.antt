pub mod Refusing
pub mod Performed
pub mod Delivered
pub mod Promised
pub mod Accepting
