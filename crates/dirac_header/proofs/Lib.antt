pub mod Sizes
pub mod Levels
pub mod Spelled
pub mod HeaderSpelled
pub mod TransformSpelled
pub mod PredictionSpelled
mod Examples
