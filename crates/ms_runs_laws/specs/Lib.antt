pub mod Formulas
pub mod Inside
pub mod Marks
pub mod Follows
pub mod Places
