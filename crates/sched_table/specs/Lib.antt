pub mod Table
pub mod Example
pub mod Json
pub mod Late
pub mod Report
