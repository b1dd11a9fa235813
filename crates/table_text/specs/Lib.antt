-- Crate edits defines the text of a table (TableText). Read Numbered for its line numbers and its length, Shaped for what a table must be to be written out;
-- Rows is how code writes it.
pub mod Numbered
pub mod Shaped
pub mod Rows
pub mod Pieces
