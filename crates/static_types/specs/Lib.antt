pub mod Conduct
pub mod Numbers
pub mod Rules
pub mod Sorts
pub mod Types
