pub mod ReplayingLemmas
pub mod Fitting
pub mod Ordering
pub mod Queueing
pub mod Framing
mod Ranked
mod Few
mod Judged
mod Prepared
mod Telling
