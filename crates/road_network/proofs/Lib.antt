pub mod Incident
pub mod Laying
pub mod Searching
pub mod Making
