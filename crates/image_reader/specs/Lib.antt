pub mod Grammar
pub mod File
pub mod Versions
pub mod Answer
pub mod Held
pub mod Taken
