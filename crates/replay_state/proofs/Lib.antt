pub mod Changes
pub mod Positions
pub mod Queueing
pub mod Exceptions
pub mod Starting
pub mod Free
