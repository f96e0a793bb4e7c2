pub mod Plain
pub mod Placed
pub mod Bare
pub mod Parts
pub mod NameBytes
pub mod formers
