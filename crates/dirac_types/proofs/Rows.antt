-- The rows of the table of settings.
use Rattle.std.proofs.Common.{ℕ, ◌≤◌, ◌*◌, ◌==◌, Bool, true, false, if◌then◌else◌, arith}
use Rattle.std.specs.List.{All}
use Rattle.std.proofs.lemmas.List.Elements.{All-from_recursion}
use Rattle.dirac_types.specs.declared.ranges.Ranged.{Ranged}
use Rattle.dirac_types.specs.declared.settings.Settings.{Settings}
use Rattle.dirac_types.specs.Settings.{step_across, step_down, step_of_height, table}

either : (b : Bool) (m n : ℕ) → 1 ≤ m → 1 ≤ n → 1 ≤ (if b then m else n)
either true m n first second = first
either false m n first second = second

-- each value is a multiple of a number that isn't 0
pub steps_at_least_1 : (s : Settings) → All (λ (r : Ranged). 1 ≤ r.step) (table s)
unfolding table
steps_at_least_1 s =
    let one : 1 ≤ 1 = omega arith in
    let two : 1 ≤ 2 = omega arith in
    let across : 1 ≤ step_across s.chroma = either (s.chroma == 0) 1 2 one two in
    let below : 1 ≤ step_down s.chroma = either (s.chroma == 2) 2 1 two one in
    let down : 1 ≤ step_of_height s.chroma s.fields = either (s.fields == 1) (2 * step_down s.chroma) (step_down s.chroma) (omega (arith, below)) below in
    All-from_recursion (λ (r : Ranged). 1 ≤ r.step) (table s) (one, (one, (across, (down, (one, (one, (one, (one, (one, (one, (one, (one, (one, (one, (one, (one, (one, (one, (one, (one, (one, (one, (one, (one, (one, (one, tt))))))))))))))))))))))))))
