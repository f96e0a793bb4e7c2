pub mod Chain
pub mod Mapped
