pub mod Words
pub mod SoundNames
pub mod MadeWords
pub mod RunWords
pub mod ReplayLaws
pub mod Once
pub mod Stored
