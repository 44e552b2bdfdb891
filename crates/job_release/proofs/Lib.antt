mod Causes
mod ComparisonWritten
mod Counted
pub mod Decided
pub mod Demands
mod DriveSteps
mod DriveTicks
mod Entered
mod EventOrders
mod FieldLists
pub mod Finishes
mod Fresh
pub mod Inputs
mod JobListWritten
pub mod JobsWritten
mod Latest
mod Listing
pub mod Moments
mod Moves
mod NextMoments
pub mod OneRun
pub mod OneTimeline
pub mod OneWeakText
mod Outcomes
pub mod Periodic
pub mod Readied
pub mod Released
mod RowCauses
mod RowChanges
mod RowSteps
mod Runs
mod Seen
mod Serving
mod Stored
mod StrongRuns
mod StrongSteps
mod WeakHistories
mod WorkSums
