pub mod Sections
pub mod Faults
pub mod Answer
pub mod Refusal
