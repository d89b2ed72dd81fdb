pub mod Doubling
mod Examples
pub mod Halves
mod Lanes
pub mod Mixing
pub mod PartRows
pub mod Phased
pub mod SampleRows
pub mod Wholes
