pub mod Hints
pub mod Program
pub mod Rules
pub mod Seen
pub mod Word
pub mod Late
