pub mod Counted
pub mod Arriving
pub mod Fitting
pub mod PhiTables
pub mod Numbered
pub mod Noted
pub mod Asked
