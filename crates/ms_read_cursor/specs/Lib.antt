pub mod Words
pub mod Reading
pub mod Views
pub mod Places
pub mod Lists
