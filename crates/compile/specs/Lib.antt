pub mod Assembled
pub mod Loops
pub mod Build
pub mod Steps
pub mod Compile
pub mod Told
pub mod Written
