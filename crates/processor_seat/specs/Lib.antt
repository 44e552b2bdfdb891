pub mod Obeying
pub mod WorkingHandParts
pub mod Stepping
pub mod ProcessorParts
