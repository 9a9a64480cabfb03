pub mod LogLemmas
pub mod Runs
pub mod Filling
pub mod PhiEdges
pub mod Refilled
pub mod Ranges
pub mod Unsetting
