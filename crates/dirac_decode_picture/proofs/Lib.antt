pub mod Doubling
pub mod Kept
pub mod Naming
