pub mod Interleaves
pub mod Predictions
pub mod Sizes
pub mod Undoing
