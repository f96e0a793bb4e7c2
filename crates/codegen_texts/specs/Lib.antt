pub mod Shared
pub mod Sites
pub mod Seen
pub mod Texts
