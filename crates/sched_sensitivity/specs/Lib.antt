pub mod Slack
pub mod Fit
pub mod Numbers
pub mod Overhead
pub mod Rows
pub mod Lines
pub mod Example
