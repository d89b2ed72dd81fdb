pub mod Decoded
pub mod Edits
pub mod Inside
pub mod Listed
pub mod ListedRead
