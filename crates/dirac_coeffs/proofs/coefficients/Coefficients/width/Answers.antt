use Rattle.std.proofs.Common.{◌≡◌, ◌*◌, ap, length, subst}
use Rattle.dirac_common.specs.Table.{Table}
use Rattle.dirac_coeffs.proofs.coefficients.Coefficients.width.Goals as goal

pub returns-clause-value : goal.returns-clause-value
returns-clause-value c = ap (λ (t : Table). t.width) c.self.view_is

pub returns-clause-whole : goal.returns-clause-whole
returns-clause-whole c = subst (λ (t : Table). length t.values ≡ t.width * t.height) c.self.view_is c.self.invariant.whole

pub returns-clause-at_least_1 : goal.returns-clause-at_least_1
returns-clause-at_least_1 c = c.self.invariant.across.0

pub returns-clause-at_most_8192 : goal.returns-clause-at_most_8192
returns-clause-at_most_8192 c = c.self.invariant.across.1
