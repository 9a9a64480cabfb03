pub mod Following
pub mod Ready
pub mod Tracing
pub mod Turning
pub mod Phis
pub mod Telling
pub mod Calling
pub mod Asking
