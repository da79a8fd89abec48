pub mod Precedence
pub mod Finding
pub mod Taking
pub mod Plans
pub mod Once
