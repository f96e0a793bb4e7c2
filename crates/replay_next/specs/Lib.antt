pub mod Ran
pub mod Remains
pub mod Weights
pub mod Driving
