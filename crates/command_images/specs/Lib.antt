pub mod Telling
pub mod Scripted
pub mod Held
pub mod Watched
pub mod Charted
