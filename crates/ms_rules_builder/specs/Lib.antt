pub mod Steps
pub mod Made
pub mod Called
pub mod Stacks
pub mod Arguments
pub mod Joins
