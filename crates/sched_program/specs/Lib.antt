pub mod Ranked
pub mod Tasks
pub mod Once
pub mod Example
pub mod Blockers
pub mod Levels
pub mod Fits
pub mod WhyLaw
