mod ThreeDraws
pub mod Pieces
mod Lines
