pub mod Chain
pub mod StepLaws
pub mod FieldSteps
pub mod Weights
