pub mod Known
pub mod Process
pub mod Kept
pub mod Ruled
pub mod Headline
pub mod Ready
pub mod Runs
pub mod Small
