pub mod Found
pub mod Parts
pub mod Costs
pub mod Waits
pub mod Handlers
pub mod Stays
pub mod Verified
