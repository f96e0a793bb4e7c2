pub mod Ends
pub mod Summed
pub mod Judged
pub mod Went
pub mod Complete
pub mod One
pub mod Late
pub mod Overheads
pub mod Done
pub mod Loads
mod Settling
mod Calls
mod Clauses
mod Tabled
mod Tried
pub mod Putting
mod Explained
