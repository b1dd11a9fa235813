pub mod Graph
pub mod Levels
pub mod OfTable
pub mod IsWay
pub mod MethodLevels
