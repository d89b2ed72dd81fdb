pub mod Differences
pub mod OnePlane
