pub mod Steps
pub mod Judging
pub mod Fitting
mod Quiet
mod Kept
mod Missing
pub mod Directing
