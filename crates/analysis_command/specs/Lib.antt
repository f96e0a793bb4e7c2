pub mod Graphs
pub mod Goals
pub mod Found
pub mod Analysed
pub mod Told
pub mod Fitted
