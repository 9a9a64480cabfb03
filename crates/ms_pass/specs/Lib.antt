pub mod Counted
pub mod Passed
pub mod Ready
pub mod Pieces
