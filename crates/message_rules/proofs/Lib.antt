pub mod Walks
pub mod Elsewhere
pub mod Counting
pub mod Rules
pub mod Examples
