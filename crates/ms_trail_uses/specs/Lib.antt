pub mod Due
pub mod Tabled
pub mod Taken
pub mod Origins
pub mod Stepping
pub mod Used
pub mod CleanUses
