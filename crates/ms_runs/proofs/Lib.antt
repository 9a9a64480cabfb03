pub mod HeapBlocks
pub mod NoneHidden
pub mod ToldCalls
pub mod Telling
pub mod EachSaid
