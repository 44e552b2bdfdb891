pub mod Addable
pub mod Choices
pub mod Decisions
mod Digits
pub mod FieldLists
pub mod Folds
pub mod Forms
pub mod LineDecisions
mod LineEnds
pub mod LineRule
mod LinesRead
pub mod NamedTasks
pub mod Names
mod PlainLines
pub mod TextLaws
pub mod Words
mod Written
