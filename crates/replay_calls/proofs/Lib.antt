pub mod NoWord
pub mod Spots
pub mod Elements
pub mod Puts
pub mod Placing
pub mod Numbering
