pub mod Released
pub mod Fields
pub mod Told
pub mod Rows
