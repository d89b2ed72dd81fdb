pub mod Halves
pub mod Run
