pub mod Running
pub mod Spawning
pub mod Searches
pub mod Standing
pub mod Calls
pub mod WordsNamed
