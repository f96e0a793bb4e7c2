pub mod Assembled
pub mod EachLoop
pub mod Ends
pub mod Frames
pub mod Rising
pub mod Words
pub mod Zips
pub mod Among
