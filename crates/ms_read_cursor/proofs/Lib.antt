pub mod FirstBytes
pub mod Numbers
pub mod Widths
pub mod Places
pub mod Further
pub mod ItemLoops
