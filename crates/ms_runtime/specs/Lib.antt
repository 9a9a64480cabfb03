pub mod Served
pub mod Answering
pub mod Going
pub mod Places
pub mod Recorded
pub mod ToldRuns
