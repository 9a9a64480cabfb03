pub mod Growing
pub mod Headings
pub mod Each
pub mod One
pub mod Memory
pub mod Spelled
