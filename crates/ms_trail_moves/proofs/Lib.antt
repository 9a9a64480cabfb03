mod Names
pub mod Chains
pub mod Scans
mod Backwards
pub mod Checking
mod WaySearch
mod Operands
pub mod EdgeWalks
