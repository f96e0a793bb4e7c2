mod Told
mod Long
