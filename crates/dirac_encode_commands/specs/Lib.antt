pub mod Delivered
pub mod Encoding
pub mod Making
pub mod Rating
