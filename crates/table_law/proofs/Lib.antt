pub mod Lists
pub mod Fits
pub mod Few
pub mod Spends
pub mod Ticks
pub mod TextSizes
pub mod Tails
pub mod Free
mod Lengths
mod Grown
mod Spelled
mod Weights
mod TextLines
mod Short
mod Made
mod Bare
mod Trees
pub mod Members
pub mod Parts
pub mod Costs
pub mod Instructions
pub mod Stacks
mod Frames
mod Words
mod Numbers
mod Lines
mod Begun
mod Once
mod Single
mod Elements
mod Calls
mod TaskEntries
mod Comes
mod Ranks
mod Ceilings
mod Blocks
mod Tasks
mod Computed
pub mod Shapes
mod Things
pub mod Statements
mod Reach
mod Limits
mod Counts
mod Whole
mod Fine
pub mod Apart
mod Bodies
pub mod Firsts
pub mod Sites
mod TableNamesWhole
pub mod Processes
mod Users
mod Events
mod Standing
mod Kept
mod WrittenEntries
mod WrittenSizes
