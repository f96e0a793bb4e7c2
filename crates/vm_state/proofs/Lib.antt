pub mod Rows
pub mod Emptying
pub mod Items
pub mod Waking
pub mod Starting
