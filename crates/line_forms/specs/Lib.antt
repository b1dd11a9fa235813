pub mod Steps
pub mod Weights
pub mod Forms
