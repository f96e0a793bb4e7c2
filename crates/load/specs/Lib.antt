pub mod Draws
pub mod Program
pub mod Script
pub mod Summary
