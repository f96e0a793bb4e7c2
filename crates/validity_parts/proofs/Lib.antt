pub mod Owners
pub mod Needs
pub mod BoundTests
pub mod Coding
