pub mod Faults
pub mod Sentences
pub mod Conduct
pub mod Seen
pub mod Laws
pub mod Told
pub mod CallLaws
