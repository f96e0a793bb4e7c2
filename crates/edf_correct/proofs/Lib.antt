mod Quiet
mod WaitFreeCode
pub mod Shapes
pub mod Admitted
pub mod Runs
pub mod EdfLawsJoined
