pub mod View
pub mod Texts
pub mod Queues
pub mod Tables
