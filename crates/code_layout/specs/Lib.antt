pub mod Values
pub mod LayoutTables
pub mod LookupTables
