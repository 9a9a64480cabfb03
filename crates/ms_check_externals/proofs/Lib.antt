pub mod Firsts
pub mod Marked
pub mod Outsiders
pub mod SlotsOf
