pub mod Command
pub mod Large
pub mod Run
pub mod Shown
pub mod Watch
pub mod WatchText
