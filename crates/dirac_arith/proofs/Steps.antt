-- The table keeps every probability within its bounds.
use Rattle.std.proofs.Common.{◌≡◌, ℕ, ◌+◌, ◌-◌, ◌*◌, ◌/◌, ◌≤◌, if◌then◌else◌, Bool, true, false, nat_le, arith, refl, ap, ◌∙◌, inl, inr}
use Rattle.std.proofs.lemmas.Bool.{leb-true, cases_lt}
use Rattle.dirac_arith.specs.StepTable.{step_table, probability_step}
use Rattle.dirac_arith.specs.Interval.{adapted}
use Rattle.dirac_arith.proofs.Fronts.{all_below, passes_below}

abbrev falls_within : ℕ → Bool
falls_within upper = nat_le (probability_step (upper + 1) + 254) (256 * (upper + 1))

-- from an upper byte of 1 on a step leaves 254 at least
steps_fit : all_below falls_within 255 ≡ true
unfolding probability_step step_table all_below
steps_fit = refl

step_within : (upper : ℕ) → 1 ≤ upper → upper ≤ 255 → probability_step upper + 254 ≤ 256 * upper
step_within upper some most =
    let e : upper - 1 + 1 ≡ upper = omega arith in
    let fits = leb-true (probability_step (upper - 1 + 1) + 254) (256 * (upper - 1 + 1)) (passes_below falls_within 255 (upper - 1) steps_fit (omega arith)) in
    rw e at fits

-- the first step of the table is 0
step_none : probability_step 0 ≡ 0
unfolding probability_step step_table
step_none = refl

-- a probability within its bounds stays there
pub record Adapts (probability : ℕ) (truth : Bool) : Type 0 where
  pub some : 254 ≤ adapted probability truth
  pub most : adapted probability truth ≤ 65281

pub adapts : (probability : ℕ) (truth : Bool) → 254 ≤ probability → probability ≤ 65281 → Adapts probability truth
adapts probability true some most =
    elim (cases_lt (probability / 256) 1) [
      | inl low ↦
          let first : probability / 256 ≡ 0 = omega arith in
          let none = ap probability_step first ∙ step_none in
          record { some = omega arith; most = omega arith }
      | inr high ↦
          let fits = step_within (probability / 256) high (omega arith) in
          record { some = omega arith; most = omega arith }
    ]
adapts probability false some most =
    elim (cases_lt (255 - probability / 256) 1) [
      | inl low ↦
          let first : 255 - probability / 256 ≡ 0 = omega arith in
          let none = ap probability_step first ∙ step_none in
          record { some = omega arith; most = omega arith }
      | inr high ↦
          let fits = step_within (255 - probability / 256) high (omega arith) in
          record { some = omega arith; most = omega arith }
    ]

-- a probability goes up, and at true as far down again and further: without a branch
pub settles : (probability up down : ℕ) (truth : Bool) → up ≡ probability_step (255 - probability / 256) → down ≡ probability_step (probability / 256) → 254 ≤ probability → probability ≤ 65281 → ((if truth then up + down else 0) ≤ probability + up) × (probability + up - (if truth then up + down else 0) ≡ adapted probability truth)
settles probability up down true eu ed some most =
    let kept = adapts probability true some most in
    (omega (arith, ed, kept.some), omega (arith, ed, kept.some))
settles probability up down false eu ed some most = (omega arith, omega (arith, eu))

-- no probability grows past its bound
pub adapted_most : (probability : ℕ) (truth : Bool) → probability ≤ 65281 → adapted probability truth ≤ 65281
adapted_most probability true most = omega arith
adapted_most probability false most =
    elim (cases_lt (255 - probability / 256) 1) [
      | inl low ↦
          let first : 255 - probability / 256 ≡ 0 = omega arith in
          let none = ap probability_step first ∙ step_none in
          omega arith
      | inr high ↦
          let fits = step_within (255 - probability / 256) high (omega arith) in
          omega arith
    ]
