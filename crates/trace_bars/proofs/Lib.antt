pub mod Clipped
pub mod Layers
pub mod Seen
pub mod Tracked
