pub mod Moved
pub mod Alike
pub mod AlikeLaws
pub mod Printed
