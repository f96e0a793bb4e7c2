pub mod Failure
pub mod Usage
pub mod Seen
