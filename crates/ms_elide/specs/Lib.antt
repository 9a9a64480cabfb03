pub mod CleanSets
pub mod Needed
pub mod SelfSupport
pub mod Removal
