pub mod Tree
pub mod Lines
pub mod Limits
pub mod Reach
pub mod Numbers
pub mod Size
