pub mod BitSets
pub mod States
pub mod Members
pub mod Kills
pub mod Visited
pub mod Answered
