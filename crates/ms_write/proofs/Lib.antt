pub mod Dots
pub mod Rendering
pub mod FullLines
pub mod Whole
