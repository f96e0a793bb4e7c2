pub mod Words
pub mod Told
pub mod Numbers
pub mod Forms
pub mod Unknown
pub mod Earlier
pub mod Sought
pub mod Message
