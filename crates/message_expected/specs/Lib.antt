pub mod Automaton
pub mod Behind
pub mod Expected
pub mod Groups
pub mod Kinds
pub mod Leads
pub mod Notes
pub mod Stack
