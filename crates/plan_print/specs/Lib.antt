pub mod RefusalLines
pub mod NumberLines
pub mod Report
pub mod Sheet
