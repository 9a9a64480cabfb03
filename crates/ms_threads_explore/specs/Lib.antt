pub mod Beginnings
pub mod Outcomes
pub mod Explorations
pub mod Trials
