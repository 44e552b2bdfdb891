pub mod Flushes
pub mod Gathers
pub mod Joins
pub mod Keeps
mod Leaving
pub mod Lists
pub mod Meets
pub mod Merging
mod Opens
pub mod Owes
pub mod Passes
pub mod Prefixes
pub mod Sending
pub mod Taking
pub mod Turns
pub mod Waiting
