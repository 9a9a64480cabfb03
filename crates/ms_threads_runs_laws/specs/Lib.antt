pub mod Halves
pub mod ThreadStates
pub mod ThreadWalks
pub mod CertainThreads
pub mod ChangingThreads
