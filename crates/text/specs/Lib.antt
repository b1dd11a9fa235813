pub mod Bytes
pub mod Lines
pub mod Readers
pub mod Cursors
pub mod Runs
pub mod Compare
pub mod Hash
