pub mod Calls
pub mod Questions
pub mod PackageOrder
pub mod Tidying
pub mod Promises
