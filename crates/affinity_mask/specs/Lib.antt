pub mod ProcSet
pub mod OutOfMemory
pub mod Number
pub mod ListText
pub mod ListFault
pub mod ListSteps
pub mod Laws
