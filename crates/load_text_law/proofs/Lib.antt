mod Drawing
mod Words
mod Numerals
mod Spelled
mod Grown
mod Short
mod Trees
mod Values
mod Elements
pub mod Shapes
pub mod Parts
pub mod Processes
mod Joined
mod Reach
pub mod Numbers
pub mod Plain
pub mod Lists
pub mod Lengths
