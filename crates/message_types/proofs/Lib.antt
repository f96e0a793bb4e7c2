pub mod Agreeing
pub mod Arguments
pub mod Failing
pub mod Examples
