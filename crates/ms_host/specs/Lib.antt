pub mod State
pub mod Shows
pub mod Answers
pub mod SlotBytes
pub mod Poisonings
pub mod Initial
