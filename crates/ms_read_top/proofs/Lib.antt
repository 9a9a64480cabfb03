pub mod Few
pub mod Told
pub mod Exactly
pub mod Named
