pub mod OpenLaws
pub mod PieceLaws
pub mod Trace
