pub mod Neighbours
pub mod Predictions
pub mod OfThree
