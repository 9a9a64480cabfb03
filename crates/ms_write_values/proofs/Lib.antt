pub mod Puts
pub mod Loops
pub mod Shapes
pub mod SignedDigits
