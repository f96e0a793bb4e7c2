pub mod ImageExamples
pub mod Others
pub mod Examples
mod Naming
mod Listing
