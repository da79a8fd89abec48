mod PlanCosts
pub mod Going
pub mod Linking
pub mod Plans
pub mod Deadheads
pub mod Counting
