pub mod First
pub mod Texts
pub mod Calls
pub mod Parts
pub mod Tasks
pub mod Goals
