pub mod SortedParts
pub mod KeyMembers
pub mod SearchLaws
pub mod HitLaws
pub mod SettleLaws
pub mod CoverLaws
pub mod HeldLaws
pub mod MetLaws
