pub mod Accepted
mod Examples
pub mod Sizes
pub mod Written
