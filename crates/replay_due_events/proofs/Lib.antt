pub mod Least
pub mod Periodic
pub mod DueLemmas
pub mod Answered
pub mod Ranked
pub mod Members
pub mod Agreeing
pub mod Nexting
mod ClockFree
pub mod Waits
