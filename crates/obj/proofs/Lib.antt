pub mod IdentityLaws
pub mod IdLaws
