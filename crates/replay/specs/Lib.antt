pub mod Parts
pub mod Told
pub mod Judging
pub mod Held
pub mod Scripted
pub mod Lines
pub mod Explained
