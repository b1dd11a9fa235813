pub mod StageLaws
pub mod AllLaws
pub mod HitLaws
pub mod VerdictLaws
pub mod SearchLaws
