pub mod Outside
pub mod Kept
pub mod Calls
pub mod Memory
