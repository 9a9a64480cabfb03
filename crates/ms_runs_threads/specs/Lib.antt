pub mod Fibers
pub mod Alike
pub mod Scripts
pub mod PlainFibers
pub mod ShadowFibers
pub mod Calls
pub mod Blind
