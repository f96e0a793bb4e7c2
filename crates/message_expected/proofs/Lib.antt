mod Begins
pub mod Behind
mod BodyRuns
mod CutBack
pub mod Cuts
mod DeclRuns
pub mod Examples
mod ExprRuns
pub mod Follows
pub mod Numbered
pub mod Picked
mod HasWords
mod KindsOf
mod Leading
mod May
mod ProgRuns
mod Runs
mod Stacks
mod StmtRuns
