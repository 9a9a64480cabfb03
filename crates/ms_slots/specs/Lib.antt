pub mod Places
pub mod Arrival
