pub use Rattle.dirac_common.specs.Ratios
pub use Rattle.dirac_sequence_header.specs.Grammar
pub use Rattle.dirac_sequence_header.specs.Lawful
pub use Rattle.dirac_sequence_header.specs.Sizes
pub use Rattle.dirac_sequence_header.specs.Tables
pub mod Written
