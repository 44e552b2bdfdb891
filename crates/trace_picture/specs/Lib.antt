pub mod Around
pub mod Lanes
pub mod Listing
pub mod Page
pub mod Picture
pub mod Rows
pub mod Scene
