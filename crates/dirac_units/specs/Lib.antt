pub use Rattle.dirac_common.specs.Codes
pub mod Info
pub mod Cut
pub mod Progress
pub mod Taking
pub mod Writing
