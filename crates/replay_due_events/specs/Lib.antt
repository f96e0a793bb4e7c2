pub mod NextDue
pub mod Accepts
pub mod Timings
pub mod Next
