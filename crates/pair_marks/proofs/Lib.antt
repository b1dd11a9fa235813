pub mod Bits
pub mod Zero
pub mod PairLaws
pub mod JoinLaws
