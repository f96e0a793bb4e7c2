pub mod Follows
pub mod Lengths
