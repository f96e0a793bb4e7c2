pub mod Events
pub mod Missing
pub mod Reasons
pub mod Findings
