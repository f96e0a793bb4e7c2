pub mod ExprReading
pub mod StmtReading
pub mod Reading
pub mod TreeWords
pub mod Beginning
