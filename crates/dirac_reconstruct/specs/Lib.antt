pub mod Predicted
pub mod Finishing
pub mod Parts
