pub mod Values
pub mod Sorts
pub mod Things
pub mod Parts
pub mod Seen
