pub mod Done
pub mod SetLines
