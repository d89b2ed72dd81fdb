pub mod Fitting
pub mod MotionRows
pub mod Pictures
pub mod Residuals
