pub mod Growing
pub mod Slots
pub mod Arriving
