pub mod Found
pub mod Got
pub mod Shared
pub mod Lists
pub mod Told
pub mod Turns
pub mod Behind
