pub mod Keeps
pub mod Gathering
pub mod Closing
pub mod Carrying
pub mod Sorting
pub mod Opening
