pub mod DecimalLaws
pub mod WrittenLaws
pub mod LineLaws
pub mod Lines
