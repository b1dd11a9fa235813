pub mod NumberLaws
pub mod Shorter
pub mod Texts
pub mod TextLaws
pub mod Aside
