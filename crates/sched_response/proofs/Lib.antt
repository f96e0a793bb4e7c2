pub mod Ascending
pub mod Capping
pub mod Caps
pub mod Shares
pub mod Counted
pub mod Counting
pub mod Rising
