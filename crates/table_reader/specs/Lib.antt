pub mod Words
pub mod Reading
pub mod Judging
pub mod Nexts
pub mod Answer
