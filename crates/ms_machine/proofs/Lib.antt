pub mod StartGlobals
pub mod Programs
pub mod Advancing
pub mod Placing
pub mod Naming
pub mod Typing
pub mod FramesDue
pub mod CallSites
