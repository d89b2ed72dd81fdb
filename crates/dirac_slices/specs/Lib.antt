pub mod Places
pub mod Given
pub mod Prepared
pub mod Samples
pub mod Basis
pub mod Parts
pub mod Bands
pub mod Small
