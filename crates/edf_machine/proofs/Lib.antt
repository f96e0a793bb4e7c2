pub mod Lists
pub mod Marking
pub mod Seeing
pub mod ByDeadlines
pub mod Rest
pub mod Runnable
pub mod Lines
