pub mod Codes
pub mod Counts
pub mod Header
pub mod Prediction
pub mod Transform
pub mod Written
