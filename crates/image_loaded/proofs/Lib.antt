pub mod Loaded
pub mod Faultless
mod Runs
mod Versions
mod Joined
