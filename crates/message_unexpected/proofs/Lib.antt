pub mod Examples
pub mod Gathered
pub mod Joined
pub mod Opened
pub mod Sought
