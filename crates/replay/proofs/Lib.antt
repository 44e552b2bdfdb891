pub mod Carrying
pub mod ContextLists
pub mod Crews
pub mod Driven
pub mod Ending
pub mod MergedCounts
pub mod Merging
pub mod NewParts
pub mod OneStream
mod Passing
pub mod Places
pub mod Posts
pub mod Results
pub mod Seating
mod Seeing
