use Rattle.std.proofs.Common.{◌≡◌, List, ℤ, ◌+◌, ◌*◌, ℕ, arith, ap, subst, sym}
use Rattle.dirac_common.specs.Table.{Table}
use Rattle.dirac_upconvert.specs.Phases.{AreLines}
use Rattle.dirac_upconvert.specs.SubSamples.{Up}
use Rattle.dirac_upconvert.specs.WholeSamples.{all_in}
use Rattle.dirac_upconvert.proofs.Wholes.{lines_some}
use Rattle.dirac_upconvert.proofs.plane.UpPlane.lines.Goals as goal

pub returns-in-Doubled : goal.returns-in-Doubled
returns-in-Doubled c x some =
    let all : (places : ℕ) → (all_in c.self.inside.samples).width + 1 ≡ 2 * places → AreLines (all_in c.self.inside.samples) places c.lines.result.now =
    subst (λ (t : Table). (places : ℕ) → t.width + 1 ≡ 2 * places → AreLines t places c.lines.result.now) (sym (ap all_in c.in-Doubled.is)) c.lines.ensures in
    subst (λ (xs : List ℤ). AreLines c.args.self.now.table c.args.self.now.width xs) (lines_some c.lines.result.now x some)
    (subst (λ (u : Up). AreLines u.table u.width c.lines.result.now) c.self.view_is
    (all c.self.inside.width (omega (arith, c.self.invariant.across, c.self.invariant.some_across))))
