pub mod Operations
pub mod Room
pub mod Calls
pub mod Headed
pub mod Words
pub mod Beginnings
pub mod Closing
