pub mod Boards
pub mod Tables
pub mod Annealing
pub mod Examples
