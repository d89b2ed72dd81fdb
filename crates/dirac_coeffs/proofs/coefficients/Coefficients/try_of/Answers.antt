use Rattle.std.proofs.Common.{ℤ, List, ap, arith, length}
use Rattle.dirac_coeffs.proofs.coefficients.Coefficients.try_of.Goals as goal

pub narrowed_into-requires-clause-across : goal.narrowed_into-requires-clause-across
narrowed_into-requires-clause-across c = c.requires.across

pub narrowed_into-requires-clause-down : goal.narrowed_into-requires-clause-down
narrowed_into-requires-clause-down c = c.requires.down

pub narrowed_into-requires-clause-len : goal.narrowed_into-requires-clause-len
narrowed_into-requires-clause-len c = omega (arith, c.in-Ok.ensures.len, c.in-Ok.values.ok.0, ap (λ (l : List ℤ). length l) c.values.ensures.value)

pub returns-in-Ok : goal.returns-in-Ok
returns-in-Ok c = c.narrowed_into.ensures

pub returns-in-Err : goal.returns-in-Err
returns-in-Err c = tt
