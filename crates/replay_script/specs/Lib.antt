pub mod Cursors
pub mod Devices
