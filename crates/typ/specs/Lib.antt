pub mod Contents
pub mod Compared
pub mod Depth
