pub mod OddComponents
pub mod Examples
