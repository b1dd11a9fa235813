pub mod Spans
pub mod ReadLaws
pub mod StepAt
pub mod MemberRead
pub mod Rank
pub mod KinLaws
pub mod MatchLaws
