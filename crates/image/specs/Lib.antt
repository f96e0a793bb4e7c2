pub mod Named
pub mod Raw
pub mod Bytes
pub mod InRange
pub mod NameMaps
pub mod Example
