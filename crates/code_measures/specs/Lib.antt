pub mod Sound
pub mod Measured
pub mod Like
pub mod Declared
pub mod Quiet
pub mod Whole
pub mod MeasuredTexts
pub mod Defined
