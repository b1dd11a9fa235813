pub mod Replying
pub mod Filling
pub mod Lending
