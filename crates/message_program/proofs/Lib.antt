pub mod Examples
pub mod Joined
pub mod Faults
pub mod Lists
pub mod LateExamples
pub mod Passed
