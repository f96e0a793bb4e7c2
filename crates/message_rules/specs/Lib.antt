pub mod Sentences
pub mod Findings
pub mod Seen
