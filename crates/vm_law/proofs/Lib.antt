pub mod Covered
pub mod There
pub mod Effects
pub mod Starting
pub mod Ticking
pub mod Suiting
pub mod Valid
pub mod Runnable
