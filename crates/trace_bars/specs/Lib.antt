pub mod Bars
pub mod Marks
pub mod Sights
pub mod Tracks
pub mod Parts
