pub mod Contents
pub mod Counts
pub mod Ranking
pub mod Climb
pub mod Search
pub mod Contained
