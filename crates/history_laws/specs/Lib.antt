pub mod ImprovingLaw
pub mod LegalLaw
pub mod OrderLaws
pub mod PartLaws
pub mod SentLaws
pub mod Start
pub mod StepLaws
pub mod StintLaw
