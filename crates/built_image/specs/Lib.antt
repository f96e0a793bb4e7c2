pub mod Named
pub mod Built
pub mod Filled
pub mod Shown
