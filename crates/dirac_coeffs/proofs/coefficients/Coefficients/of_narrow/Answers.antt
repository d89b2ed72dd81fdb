use Rattle.std.proofs.Common.{ℤ, List, subst}
use Rattle.dirac_coeffs.specs.Held.{IsLargest}
use Rattle.dirac_coeffs.proofs.coefficients.Coefficients.of_narrow.Goals as goal

pub of_rows-requires-clause-largest : goal.of_rows-requires-clause-largest
of_rows-requires-clause-largest c = subst (λ (xs : List ℤ). IsLargest c.largest_narrow-largest.result xs) c.as_slice.ensures.value c.largest_narrow-largest.ensures
