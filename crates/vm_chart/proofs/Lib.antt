pub mod Alike
pub mod Ending
pub mod Few
pub mod Tracing
pub mod Following
mod Ranges
