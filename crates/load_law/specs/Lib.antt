pub mod Rules
pub mod Time
pub mod Texts
pub mod Light
