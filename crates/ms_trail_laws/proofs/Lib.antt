pub mod Exact
mod ByteRuns
pub mod ResultMoves
pub mod MemoryMoves
pub mod StepMoves
pub mod EndsAtUse
pub mod Whole
pub mod Found
mod AllMoves
mod Staying
