pub mod PathRows
