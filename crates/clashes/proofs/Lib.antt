pub mod MemberRuns
pub mod RisingLaws
pub mod MarkLaws
pub mod ClashLaws
pub mod SeenLaws
