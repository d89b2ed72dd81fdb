pub mod Cutting
pub mod Encodings
pub mod Showing
