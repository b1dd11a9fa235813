pub mod AgreeLaws
pub mod BucketLaws
pub mod RoundLaws
pub mod SlackLaws
pub mod LinkLaws
pub mod ReadingLaws
pub mod SettleLaws
