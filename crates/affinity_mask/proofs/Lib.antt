pub mod Sets
pub mod Lists
pub mod Meetings
pub mod Unions
pub mod Runs
mod Words
pub mod Numbers
pub mod Items
pub mod ListTexts
pub mod TextCases
mod Written
mod NextRuns
mod ListBytes
mod CanonicalLists
