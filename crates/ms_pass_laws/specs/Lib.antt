pub mod Law
pub mod Numbers
pub mod Pass
pub mod Known
