pub mod Seen
pub mod Queues
pub mod Cells
pub mod Threads
pub mod Plan
pub mod Board
