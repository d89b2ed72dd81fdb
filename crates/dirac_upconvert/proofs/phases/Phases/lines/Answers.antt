use Rattle.std.proofs.Common.{◌≡◌, ◌+◌, ◌*◌, ℕ, arith, subst}
use Rattle.dirac_common.specs.Table.{Table}
use Rattle.dirac_upconvert.specs.Phases.{AreLines}
use Rattle.dirac_upconvert.proofs.Phased.{held_lines}
use Rattle.dirac_upconvert.proofs.phases.Phases.lines.Goals as goal

pub returns : goal.returns
returns c =
    subst (λ (t : Table). (places : ℕ) → t.width + 1 ≡ 2 * places → AreLines t places c.as_slice.result.now) c.self.view_is
    (λ places e.
    held_lines c.self.inside.columns c.self.inside.rows places c.as_slice.result.now c.self.inside.samples.items (omega (arith, c.self.invariant.1)) c.self.invariant.0
    c.as_slice.ensures.value (omega (arith, e, c.self.invariant.1)))
