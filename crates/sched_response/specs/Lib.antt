pub mod Demand
pub mod Floor
pub mod Counts
pub mod Ranked
