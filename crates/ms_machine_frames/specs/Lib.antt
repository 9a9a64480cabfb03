pub mod Meaning
pub mod Owning
pub mod Crossing
pub mod Standing
