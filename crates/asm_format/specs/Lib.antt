pub mod Mnemonics
pub mod TreeText
pub mod Text
pub mod Operands
