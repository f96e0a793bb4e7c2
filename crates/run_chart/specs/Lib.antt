pub mod Letters
pub mod Spans
pub mod Responses
pub mod Chart
pub mod Columns
pub mod Traces
