pub mod Names
pub mod Hits
