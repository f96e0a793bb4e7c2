pub mod Frames
pub mod Rows
pub mod Inserted
pub mod Counted
pub mod Costs
pub mod RoutineTable
pub mod ProcessTable
pub mod Tables
