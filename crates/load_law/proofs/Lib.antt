mod Knowing
mod Fine
mod LoadNamesStatements
mod Outside
mod Plain
mod LoadNamesProcesses
mod Members
mod Monitor
mod Declared
mod LoadNamesJoined
mod Given
mod Terms
mod LoadTypesStatements
mod LoadTypesTrees
mod Sites
mod LoadTypesProcesses
mod Monitors
mod Programs
mod Types
mod LoadStacksTrees
mod Heights
mod LoadStacksJoined
mod Costs
mod Held
mod LoadCostsJoined
pub mod LightJoined
pub mod Levels
pub mod Ranks
pub mod Sharing
pub mod Stays
mod Rules
mod Time
mod Faults
mod Built
