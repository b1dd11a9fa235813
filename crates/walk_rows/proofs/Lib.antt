pub mod RecordLaws
pub mod ListLaws
pub mod StateLaws
pub mod StartLaws
pub mod LentLaws
pub mod EnterLaws
pub mod LowerLaws
pub mod PlaceLaws
