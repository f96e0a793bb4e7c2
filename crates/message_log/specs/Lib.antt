pub mod Image
pub mod Log
pub mod Refused
pub mod Seen
