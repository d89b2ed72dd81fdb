pub mod Positions
pub mod Predictions
pub mod Samples
