pub mod Views
pub mod Timed
pub mod TimedExample
pub mod Defined
pub mod TimedUsesExample
