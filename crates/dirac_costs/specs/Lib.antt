pub mod Bits
pub mod Least
pub mod Sums
pub mod Windows
