pub mod Scopes
pub mod Steps
pub mod Walks
pub mod Loops
pub mod Scoping
pub mod Notes
pub mod Programs
pub mod Failing
