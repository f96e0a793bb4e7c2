pub mod Demand
pub mod Reaching
pub mod Activations
pub mod Stacked
pub mod Earliest
