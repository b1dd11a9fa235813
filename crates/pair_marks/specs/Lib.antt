pub mod Marks
pub mod Classes
pub mod Pairs
