pub mod ByDeadline
pub mod Example
pub mod NoRun
