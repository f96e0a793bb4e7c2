pub mod DueOnce
pub mod EdfDueOnce
pub mod Word
