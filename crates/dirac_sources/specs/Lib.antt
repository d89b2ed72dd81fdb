pub use Rattle.dirac_content.specs.Raw
pub mod Sources
