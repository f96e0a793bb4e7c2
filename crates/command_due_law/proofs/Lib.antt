mod DueOnceFirsts
pub mod Texts
pub mod DueOnceImages
pub mod DueOnceScripts
mod Commands
mod Spares
pub mod Told
pub mod Stops
mod Due
mod EdfDueOnceImages
mod Judged
mod Listed
mod Words
mod Tables
