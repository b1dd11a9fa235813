-- Read TableText for what a table's text is, Tidy for the tidied table, Tidying for what the call gives.
pub mod Carried
pub mod Assembled
pub mod TableText
pub mod Tidy
pub mod Tidying
pub mod Examples
