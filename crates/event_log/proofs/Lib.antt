pub mod Names
pub mod Finding
pub mod Acts
pub mod LinesLemmas
pub mod Reading
pub mod Once
mod FirstLine
pub mod TickDigits
pub mod Pairs
