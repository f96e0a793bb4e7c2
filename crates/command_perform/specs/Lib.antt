pub mod Performed
pub mod Ready
