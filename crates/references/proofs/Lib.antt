pub mod RowKinds
pub mod Referring
pub mod Allowing
pub mod Walking
pub mod Failing
