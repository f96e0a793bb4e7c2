pub mod Examples
pub mod Pairs
pub mod Parts
pub mod Pieces
pub mod Walks
