pub mod Examples
pub mod Joined
pub mod Keywords
pub mod Splits
