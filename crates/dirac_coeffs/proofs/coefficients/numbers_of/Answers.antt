use Rattle.std.proofs.Common.{ap, sym, ◌∙◌}
use Rattle.dirac_coeffs.specs.Grammar.{values_of_parent}
use Rattle.dirac_coeffs.proofs.coefficients.numbers_of.Goals as goal

pub returns-in-Some : goal.returns-in-Some
returns-in-Some c = c.numbers.ensures ∙ sym (ap (λ p. values_of_parent p) c.in-Some.is)

pub returns-in-None : goal.returns-in-None
returns-in-None c = sym (ap (λ p. values_of_parent p) c.in-None.is)
