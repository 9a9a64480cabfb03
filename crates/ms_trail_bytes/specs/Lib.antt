pub mod Logs
pub mod Spans
pub mod Shading
