pub mod Bounds
pub mod Lists
pub mod Table
pub mod Refusals
pub mod Rows
pub mod Types
pub mod Laid
