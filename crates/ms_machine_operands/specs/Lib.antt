pub mod Words
pub mod Sized
pub mod Addressed
pub mod Tabled
pub mod InitialWords
