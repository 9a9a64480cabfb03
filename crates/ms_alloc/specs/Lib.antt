pub mod Layout
pub mod Allocations
pub mod Only
pub mod Owners
pub mod Places
