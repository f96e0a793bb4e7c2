pub mod Scripts
pub mod Plans
pub mod Running
pub mod Earliest
pub mod Ends
