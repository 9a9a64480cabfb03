pub mod Products
pub mod Powers
mod Joining
