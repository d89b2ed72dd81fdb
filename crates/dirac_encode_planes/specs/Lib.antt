pub mod Analyses
pub mod Analysing
pub mod Predictions
