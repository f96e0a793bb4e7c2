pub mod Marks
pub mod Sights
pub mod Runnable
pub mod ByDeadlines
pub mod Standing
pub mod Coming
pub mod EdfRunnable
