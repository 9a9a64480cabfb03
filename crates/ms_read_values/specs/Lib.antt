pub mod Attributes
pub mod Narrow
pub mod Parts
pub mod ValueTypes
pub mod Rests
