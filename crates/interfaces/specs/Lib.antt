pub mod Interfaces
pub mod FullList
pub mod Runs
pub mod Orders
pub mod Clashes
pub mod OfTable
pub mod Held
