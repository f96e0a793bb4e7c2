pub mod Fields
pub mod Standing
pub mod Reads
pub mod Places
pub mod Placing
pub mod Kept
