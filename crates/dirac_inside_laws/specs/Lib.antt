pub mod Alike
pub mod Extended
pub mod Kept
