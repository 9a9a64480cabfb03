pub mod Chaining
pub mod Trails
