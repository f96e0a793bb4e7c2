mod Five
mod Overheads
