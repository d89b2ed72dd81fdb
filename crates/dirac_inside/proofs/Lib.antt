mod Examples
pub mod Below
pub mod Positions
pub mod Zeros
mod Places
pub mod Planes
