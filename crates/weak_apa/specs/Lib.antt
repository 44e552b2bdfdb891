pub mod Apart
pub mod Compared
pub mod Laws
pub mod Stable
mod Start
pub mod Step
pub mod StepLaws
pub mod WeakText
