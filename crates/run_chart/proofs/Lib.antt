pub mod Seeing
pub mod Widths
pub mod Tracing
