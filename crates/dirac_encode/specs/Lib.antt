pub mod Ahead
pub mod Asked
pub use Rattle.dirac_encode_progress.specs.Going
pub use Rattle.dirac_encode_progress.specs.Alone
