pub mod Steps
pub mod Judged
pub mod Told
