pub mod Reading
mod OneInst
