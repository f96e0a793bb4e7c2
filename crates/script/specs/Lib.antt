pub mod Saying
pub mod Scripts
pub mod Faults
pub mod Reading
pub mod Script
pub mod OneAnswer
pub mod Meaning
