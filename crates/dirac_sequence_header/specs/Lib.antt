pub use Rattle.dirac_common.specs.Ratios
pub mod Sizes
pub mod Tables
pub mod Grammar
pub mod Lawful
