pub mod Insides
pub mod Pictures
pub mod Workers
