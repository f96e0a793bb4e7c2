pub mod Own
pub mod Settled
pub mod Settle
pub mod Chosen
pub mod Rows
