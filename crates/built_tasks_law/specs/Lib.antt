pub mod Calls
pub mod Touches
pub mod Ranks
pub mod Images
pub mod Tasks
pub mod Judged
