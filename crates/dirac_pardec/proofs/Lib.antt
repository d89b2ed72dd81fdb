pub mod Sources
pub mod Unlisted
