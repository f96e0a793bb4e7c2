pub mod Parts
pub mod Load
pub mod Levels
pub mod Sections
pub mod Example
