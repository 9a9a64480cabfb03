pub mod Rows
pub mod Searches
pub mod Owners
pub mod Places
pub mod Cuts
