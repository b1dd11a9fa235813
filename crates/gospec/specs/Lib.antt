pub mod Go
pub mod Fields
pub mod GoSelectors
pub mod Says
pub mod GoImplements
pub mod GoMethodSets
pub mod Lists
