pub mod Delivered
pub mod Endings
mod Examples
pub mod Making
