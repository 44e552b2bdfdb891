pub mod Prefixes
pub mod Links
pub mod Pictures
pub mod Entering
pub mod Boards
