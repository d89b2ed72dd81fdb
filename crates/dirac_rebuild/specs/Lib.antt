pub mod Rebuilding
pub mod Moved
pub mod Doubled
