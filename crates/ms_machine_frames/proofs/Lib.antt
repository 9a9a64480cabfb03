pub mod Selections
pub mod WordOperations
pub mod Moves
pub mod HeapBlocks
pub mod Steps
pub mod Numbers
pub mod Calls
pub mod Starts
