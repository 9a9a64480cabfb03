pub mod Inserted
pub mod Outside
