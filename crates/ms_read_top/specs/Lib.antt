pub mod Reading
pub mod TypeNames
pub mod Globals
pub mod After
