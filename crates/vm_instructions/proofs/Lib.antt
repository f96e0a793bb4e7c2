pub mod Rows
pub mod Elements
pub mod Arms
pub mod Leading
pub mod Roomy
pub mod Safe
pub mod AtHand
