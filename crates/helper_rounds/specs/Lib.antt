pub mod Helpers
pub mod Asking
