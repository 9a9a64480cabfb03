pub mod Faithful
pub mod Fills
pub mod Recording
pub mod ThreadTables
pub mod Going
pub mod ToldThreads
