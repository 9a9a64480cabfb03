pub mod boxes
pub mod lists
