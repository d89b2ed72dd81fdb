mod Examples
pub mod Fields
pub mod Insides
pub mod Least
pub mod Rows
