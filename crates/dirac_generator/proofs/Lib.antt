pub mod Sizes
pub mod Rows
pub mod Lengths
pub mod Reading
pub mod Counting
