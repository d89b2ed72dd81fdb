pub mod Answers
pub mod Bounds
pub mod Digits
mod Examples
pub mod Rows
pub mod Shifts
