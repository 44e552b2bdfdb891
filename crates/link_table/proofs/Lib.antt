pub mod Awaiting
pub mod Feeding
pub mod Found
mod IdleSets
pub mod Indexing
pub mod Leaders
pub mod NewPriority
pub mod Priorities
pub mod Ranks
pub mod Rests
pub mod Steps
pub mod Trees
pub mod Urgent
