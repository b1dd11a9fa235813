pub mod Marks
pub mod Known
