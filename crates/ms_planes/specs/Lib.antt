pub mod Areas
pub mod Blocks
pub mod Memory
