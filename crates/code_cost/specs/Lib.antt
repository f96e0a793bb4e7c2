pub mod Sums
pub mod Forms
pub mod Parts
pub mod Sizes
pub mod Rules
pub mod Example
pub mod Numbers
pub mod Told
