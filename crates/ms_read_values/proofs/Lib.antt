pub mod Bases
pub mod Depths
pub mod Fits
