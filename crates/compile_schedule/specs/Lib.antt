pub mod Ranking
pub mod Bounding
