-- Read Maps for what a map of tables is, Carry for what becomes of an answer along it.
pub mod Maps
pub mod Carry
