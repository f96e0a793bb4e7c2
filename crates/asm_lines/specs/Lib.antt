pub mod Names
pub mod Instrs
pub mod TreeForm
pub mod Shapes
pub mod Trees
pub mod Routines
pub mod Processes
pub mod Kept
