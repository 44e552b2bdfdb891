pub mod Batches
pub mod QueueSteps
pub mod CountSteps
