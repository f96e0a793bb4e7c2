pub mod Onto
pub mod Respond
pub mod NoFloat
pub mod Passed
