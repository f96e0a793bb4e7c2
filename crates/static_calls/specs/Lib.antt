pub mod Graph
pub mod Marks
pub mod Calls
pub mod Reaching
pub mod Tables
