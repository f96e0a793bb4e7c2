pub mod InRange
pub mod Line
pub mod Logs
pub mod Parts
pub mod Finding
pub mod LogReading
pub mod Reader
pub mod Digits
