pub mod Operands
pub mod Logged
pub mod ScriptSuits
pub mod Suits
pub mod SafeRun
pub mod RunnerLaws
