pub mod Steps
pub mod RefLaws
pub mod FormLaws
pub mod LetterLaws
pub mod KnownLaws
