pub mod Crosses
pub mod Firsts
pub mod OneAnswer
pub mod Given
pub mod Repeated
pub mod Sited
pub mod Exact
