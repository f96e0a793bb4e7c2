pub mod Views
pub mod StmtViews
