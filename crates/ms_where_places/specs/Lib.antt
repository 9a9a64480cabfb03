pub mod Turns
pub mod Marks
pub mod Instructions
pub mod Failures
pub mod Told
pub mod MarkedTexts
pub mod Indented
