pub mod Admitted
pub mod EdfAnswers
pub mod EdfAdmit
pub mod Runs
pub mod Steps
pub mod Ready
