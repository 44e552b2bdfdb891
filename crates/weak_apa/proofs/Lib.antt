pub mod Alike
mod ComparedSoFar
mod Counted
pub mod Followed
mod Leaving
mod Looking
mod NoBetter
pub mod OneText
mod Placing
pub mod Unique
mod Written
