pub mod AboveLaws
pub mod AddLaws
pub mod TupleLaws
pub mod ReadLaws
