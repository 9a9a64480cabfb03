pub mod Stacks
pub mod Zips
pub mod Tasks
pub mod Joins
