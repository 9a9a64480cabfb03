pub mod FirstPlace
pub mod Index
pub mod Kept
pub mod Here
pub mod Sought
