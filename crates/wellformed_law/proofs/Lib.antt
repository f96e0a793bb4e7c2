mod WellformedNamesCounts
pub mod Found
mod Parts
mod ExprParts
mod DeclParts
mod TokenPlaces
mod Given
mod ExprWritten
mod DeclWritten
mod Appends
mod Listed
pub mod WellformedScopesCounts
mod Things
pub mod Members
pub mod Lookups
pub mod NamesAfter
mod ThingsListed
pub mod ProgramScope
mod ProgramNames
pub mod EntryNames
mod ScopeNames
pub mod Mirrored
pub mod Basics
pub mod Uses
pub mod Expressions
pub mod Targets
pub mod CallConstants
mod Loops
pub mod Numbers
pub mod Calls
mod WellformedStatementsBehind
mod Statements
pub mod CallLists
pub mod Through
pub mod Falling
pub mod WellformedCallsBehind
pub mod Named
pub mod Below
pub mod Levelled
pub mod Lists
pub mod Rules
pub mod Adding
pub mod Declared
pub mod Constants
pub mod WellformedLaw
pub mod TypesFit
pub mod Standing
pub mod Texts
pub mod Activations
pub mod ProcessesFit
pub mod EventsFit
pub mod CountsFit
pub mod WellFormed
