pub mod Follow
pub mod CallsAlike
pub mod BlindAlike
pub mod EndsAlike
