pub mod Begun
pub mod Suffixes
pub mod Answering
pub mod Places
pub mod Headed
pub mod Words
