pub mod Strips
pub mod Between
pub mod Preparing
pub mod Oriented
