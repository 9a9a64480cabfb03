pub mod Jobs
pub mod Wanted
