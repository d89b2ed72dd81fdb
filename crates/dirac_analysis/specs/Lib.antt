pub mod Analysis
pub mod Coded
pub mod Fits
pub mod Halves
pub mod Laws
pub mod Splitting
