pub mod Laws
pub mod Mentions
pub mod Reach
pub mod Seen
pub mod Told
