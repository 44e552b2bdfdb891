pub mod Links
pub mod Pictures
pub mod Chronicles
pub mod Views
pub mod Boards
