pub mod Carriers
pub mod Rests
