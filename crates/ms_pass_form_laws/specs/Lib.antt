pub mod Numbers
pub mod Eliding
pub mod Checks
pub mod Elided
