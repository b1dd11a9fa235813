pub mod SelectLaws
pub mod MissingLaws
