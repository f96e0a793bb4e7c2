pub mod TreesTold
pub mod Steps
pub mod Whole
pub mod Told
pub mod Owned
pub mod Seen
