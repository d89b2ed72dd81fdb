mod Examples
pub mod Least
pub mod Quotients
pub mod Spelt
pub mod Sums
pub mod Tiles
pub mod Totals
