pub mod Related
pub mod Compiled
pub mod Image
pub mod Example
