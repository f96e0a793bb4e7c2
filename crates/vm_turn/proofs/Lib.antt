pub mod Doing
pub mod Seeing
pub mod Settling
pub mod Turning
pub mod Room
pub mod Safely
pub mod Choosing
pub mod Rowed
