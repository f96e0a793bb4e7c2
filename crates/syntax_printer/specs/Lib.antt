pub mod Canonical
pub mod Pages
pub mod ReadBack
