pub mod Line
pub mod Inside
pub mod Listing
pub mod Decoding
pub mod Cutting
pub mod Joining
