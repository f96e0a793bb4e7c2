pub mod Mismatches
pub mod Sentences
pub mod Told
pub mod Seen
