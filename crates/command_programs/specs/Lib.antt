pub mod Runnable
pub mod Levels
pub mod Formats
pub mod Scripted
