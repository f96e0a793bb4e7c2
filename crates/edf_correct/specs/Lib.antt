pub mod Waits
pub mod Admitted
pub mod Answers
pub mod EdfLaws
pub mod FeasibleTexts
