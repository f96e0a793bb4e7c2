pub mod Names
pub mod Found
pub mod Telling
pub mod Examples
pub mod CallsTelling
