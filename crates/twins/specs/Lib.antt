pub mod Labels
pub mod Chains
