-- What the parse code of a picture says.
pub use Rattle.dirac_common.specs.Codes.{is_reference, references_of}
