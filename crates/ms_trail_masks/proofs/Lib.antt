pub mod Negations
mod Fills
pub mod Reading
pub mod Indices
pub mod Computing
