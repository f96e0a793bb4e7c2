pub mod Foreign
pub mod Parts
pub mod Remarks
pub mod Rows
pub mod Seen
pub mod Unexpected
