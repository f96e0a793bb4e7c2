pub mod Either
pub mod Lines
pub mod Nearest
pub mod Rows
pub mod Shown
pub mod Words
