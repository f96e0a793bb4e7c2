mod Finding
mod Following
mod Readiness
mod Starting
mod Telling
