pub mod Fields
pub mod Least
