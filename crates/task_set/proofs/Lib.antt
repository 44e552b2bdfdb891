mod Entries
mod Priorities
mod Lists
pub mod Outside
pub mod Added
pub mod Refusals
pub mod Obeyable
pub mod Stints
pub mod Carried
pub mod CarriedLast
pub mod Sums
