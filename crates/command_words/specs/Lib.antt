pub mod Calls
pub mod WordsLaws
pub mod Words
