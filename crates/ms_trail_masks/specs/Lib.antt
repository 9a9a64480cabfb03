pub mod Shades
pub mod Views
pub mod Results
