pub mod Ready
mod Strings
mod Growing
mod Joined
mod Ranks
pub mod Read
pub mod Refused
mod Explained
