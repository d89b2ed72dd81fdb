pub mod DcSum
pub mod Geometry
pub mod Interleaving
