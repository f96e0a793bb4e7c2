pub mod Next
pub mod Listing
pub mod Firsts
pub mod Judging
