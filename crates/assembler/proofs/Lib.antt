pub mod NoMore
pub mod RowLoop
pub mod Rows
pub mod Owners
