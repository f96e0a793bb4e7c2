pub mod NameListTable
pub mod NumberingTable
pub mod Listing
pub mod Meaning
pub mod Visiting
pub mod Found
pub mod Tasks
