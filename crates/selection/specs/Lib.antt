pub mod Results
pub mod Finds
