pub mod Order
pub mod Begin
pub mod Expired
