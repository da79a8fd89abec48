pub mod Holding
pub mod Laying
pub mod Shrinking
pub mod Products
