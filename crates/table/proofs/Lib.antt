pub mod Staging
pub mod Whole
