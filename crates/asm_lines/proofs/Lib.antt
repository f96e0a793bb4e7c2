pub mod Lasts
pub mod Cutting
pub mod SegLoop
pub mod MoreLoop
pub mod FitLoop
