mod Tokens
mod Identifiers
pub mod Named
pub mod Differing
pub mod Declared
pub mod Qualified
pub mod Sound
pub mod Codes
pub mod Statements
pub mod Programs
mod Words
mod Effects
mod Starting
mod Queued
pub mod Ticking
mod Scripted
pub mod Logged
pub mod ReplayLawsReplayed
mod Logs
mod Verdicts
pub mod Judged
pub mod ReplayOnceReplayed
pub mod Numbers
pub mod Trees
pub mod Turns
pub mod Instructions
pub mod Nesting
pub mod Levels
pub mod Routines
pub mod Rising
pub mod Processes
pub mod Fresh
pub mod StoredDeclared
pub mod Events
pub mod Lists
pub mod StoredNamed
pub mod Whole
pub mod Joined
