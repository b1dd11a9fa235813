pub mod CountLaws
pub mod ContentLaws
pub mod RankLaws
pub mod SearchLaws
pub mod Acyclic
pub mod LineLaws
pub mod ContainedLaws
