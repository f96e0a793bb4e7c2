pub mod Orders
pub mod Running
pub mod Fitting
pub mod Outcomes
pub mod Images
pub mod Counted
pub mod Accepted
pub mod Loads
pub mod Printed
mod Spared
