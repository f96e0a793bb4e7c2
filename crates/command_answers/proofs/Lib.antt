pub mod Caused
pub mod Coming
pub mod Held
pub mod Judged
pub mod OnlyReads
pub mod Trying
pub mod ValidImages
