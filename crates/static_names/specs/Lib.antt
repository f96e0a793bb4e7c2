pub mod Reach
pub mod Occurrences
pub mod Rules
pub mod Findings
pub mod Seen
pub mod Resolved
pub mod Near
