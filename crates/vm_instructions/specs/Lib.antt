pub mod Frames
pub mod Inside
pub mod Stack
pub mod Steps
pub mod Silent
pub mod Rows
pub mod Within
