pub mod Open
pub mod Course
pub mod Edits
pub mod Steps
pub mod Units
pub mod Kept
pub mod Merged
