pub mod Widths
pub mod Rules
pub mod Pieces
pub mod Plain
pub mod Sizes
