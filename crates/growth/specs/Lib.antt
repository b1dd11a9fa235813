pub mod Grown
pub mod Promise
pub mod Calls
pub mod Incident
