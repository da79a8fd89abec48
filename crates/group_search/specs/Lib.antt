pub mod Flows
pub mod Violation
pub mod Tables
pub mod Examples
