mod Positions
mod FieldCuts
mod FieldLists
mod LinesRead
mod Surveys
mod HeadLines
mod LossLines
mod DigitValues
pub mod Courses
pub mod Decided
pub mod Followed
pub mod Imports
mod HeadSplit
mod Turns
mod InOrder
mod Settled
mod ToldApart
mod ReadPassages
mod Kept
pub mod Imported
pub mod Passed
