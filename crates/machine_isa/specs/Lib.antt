pub mod Ticks
pub mod Bytes
pub mod Numbered
pub mod Operands
