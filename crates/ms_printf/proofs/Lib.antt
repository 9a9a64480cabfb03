pub mod Cuts
pub mod InMemory
pub mod Numbered
pub mod Output
pub mod SameSite
pub mod Signs
pub mod Steps
pub mod Sums
