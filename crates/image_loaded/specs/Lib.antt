pub mod Shape
pub mod Faults
pub mod Answers
pub mod ValidRead
