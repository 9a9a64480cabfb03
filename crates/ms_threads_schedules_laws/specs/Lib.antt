pub mod Picks
pub mod Trees
pub mod Explored
pub mod Exploration
pub mod Examples
pub mod Promise
