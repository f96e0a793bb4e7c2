pub mod Types
pub mod Processes
pub mod Counts
pub mod Rules
pub mod Places
pub mod Seen
