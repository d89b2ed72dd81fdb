pub mod Accepted
mod Examples
pub mod Heights
pub mod InRange
mod Rows
