pub mod Capped
pub mod Words
