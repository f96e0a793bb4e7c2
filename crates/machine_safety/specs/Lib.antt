pub mod SmallImages
pub mod Example
pub mod ValidImages
