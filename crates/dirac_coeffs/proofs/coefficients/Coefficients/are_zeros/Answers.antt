use Rattle.std.proofs.Common.{◌*◌}
use Rattle.dirac_coeffs.specs.Held.{held_values}
use Rattle.dirac_coeffs.proofs.Largest.{zeros_told}
use Rattle.dirac_coeffs.proofs.coefficients.Coefficients.are_zeros.Goals as goal

pub returns-clause-value : goal.returns-clause-value
returns-clause-value c =
    rw (← c.self.view_is) (zeros_told c.self.inside.largest (held_values (c.self.inside.width * c.self.inside.height) c.self.inside.held) c.self.invariant.most)
