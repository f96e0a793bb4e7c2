pub mod Told
pub mod Effects
pub mod Judged
pub mod Running
pub mod Directly
