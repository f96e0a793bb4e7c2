pub mod Told
pub mod Made
pub mod Parts
pub mod Held
