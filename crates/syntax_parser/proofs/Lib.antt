pub mod Loops
pub mod Rows
pub mod Parts
pub mod Stmts
pub mod Refusals
pub mod Ends
