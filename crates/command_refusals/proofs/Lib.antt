pub mod Long
pub mod Explaining
