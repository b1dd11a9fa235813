pub mod Computed
pub mod CarriedLaws
