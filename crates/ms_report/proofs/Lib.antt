mod Functions
pub mod WithoutLines
mod Singles
mod Indents
pub mod Unindented
pub mod TrailLines
mod SiteCounts
pub mod FewCalls
pub mod CallLines
pub mod BlindLines
pub mod Uncalled
