pub mod Adding
pub mod Loading
pub mod Tasks
