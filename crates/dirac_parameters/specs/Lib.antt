pub mod Counts
pub mod Grids
