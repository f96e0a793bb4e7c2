mod PlainMoved
mod GrammarMoved
mod Both
mod Sites
mod Names
mod NameRules
mod Rules
mod Things
mod Parts
mod Sorts
mod Statements
mod Numbers
mod Calls
mod TokenPlaces
mod Pairs
mod Checked
mod Sizes
pub mod Printed
