pub mod Sheets
pub mod Parts
