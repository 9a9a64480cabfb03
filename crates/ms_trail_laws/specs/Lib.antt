pub mod FromReached
pub mod Complete
pub mod Staying
