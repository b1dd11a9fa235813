pub mod Saying
pub mod Members
pub mod Setting
