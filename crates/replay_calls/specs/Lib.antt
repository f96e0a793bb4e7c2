pub mod Seen
pub mod Lookups
pub mod Places
pub mod Reach
pub mod Stores
pub mod Conditions
