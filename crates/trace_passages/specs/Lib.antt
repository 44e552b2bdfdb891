pub mod Passages
pub mod Turns
