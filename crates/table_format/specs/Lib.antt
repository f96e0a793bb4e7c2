pub mod Spelling
pub mod Rules
pub mod Faults
pub mod Spending
pub mod Program
pub mod Parts
