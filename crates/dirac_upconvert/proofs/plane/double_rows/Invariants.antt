use Rattle.std.proofs.Common.{◌≡◌, ℕ, ◌+◌, ◌*◌, ◌<◌, length, vec_len}
use Rattle.dirac_upconvert.specs.HalfSamples.{half_at}
use Rattle.dirac_upconvert.specs.Phases.{phase_at}
use Rattle.dirac_upconvert.proofs.plane.double_rows.Given as goal

abbrev pub invariant-loop-y : goal.invariant-loop-y
invariant-loop-y l =
    (vec_len l.line ≡ l.plane.width) × (vec_len l.row ≡ 2 * l.plane.width) × (length l.samples.items ≡ l.y * (2 * l.plane.width))
    × ((x y : ℕ) → x + 1 < 2 * l.plane.width → y < l.y → phase_at l.plane.width l.samples.items x y ≡ half_at l.plane x y)
