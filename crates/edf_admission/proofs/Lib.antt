mod Asked
mod Lasts
mod Once
pub mod Premises
mod Ranks
mod EdfAdmitRuns
mod Still
mod Planned
mod AdmittedRunRuns
