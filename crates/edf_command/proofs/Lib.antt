mod Shaped
mod Noted
mod Reported
mod Prepared
mod Runs
mod Scripted
mod Sized
mod Telling
