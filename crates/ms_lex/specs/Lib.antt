pub mod Tokens
pub mod Names
pub mod Numbers
pub mod Grammar
pub mod Lists
pub mod Sums
