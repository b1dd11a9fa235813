pub mod Firsts
pub mod MetLaws
pub mod HitLaws
pub mod SetLaws
pub mod KeepLaws
