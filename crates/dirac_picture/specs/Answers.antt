-- What the answer of a reader that takes memory says.
pub use Rattle.dirac_coeffs.specs.Answers.{GivesOrStops}
