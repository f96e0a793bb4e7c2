pub mod Inspect
pub mod Told
pub mod Follows
pub mod Shown
