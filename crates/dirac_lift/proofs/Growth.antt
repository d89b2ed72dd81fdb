-- How large a step makes the values of a line.
use Rattle.std.proofs.Common.{◌≡◌, ℕ, ℤ, pos, Bool, true, false, ◌+◌, ◌-◌, ◌*◌, ◌/◌, ◌%◌, ◌^◌, ◌≤◌, unsigned_abs, List, length, get_or, arith, inl, inr}
use Rattle.std.specs.List.{sum_by}
use Rattle.std.proofs.lemmas.Int.{ints}
use Rattle.std.proofs.lemmas.Nat.{pow_pos}
use Rattle.std.proofs.lemmas.Bool.{cases_lt}
use Rattle.dirac_bands.proofs.Sizes.{div_mono}
use Rattle.dirac_lift.specs.Lifting.{Step, own, value_read, weighted, change_at, moved, new_at, lift, PlacesWithin, grown_by_step}
use Rattle.dirac_lift.proofs.Lifted.{LiftedBelow, lift_below}
use Rattle.dirac_lift.proofs.Signed.{abs-rounded}
use Rattle.dirac_lift.proofs.Weighted.{abs-weighted}

pub abs-moved : (minus : Bool) (v d : ℤ) → unsigned_abs (moved minus v d) ≤ unsigned_abs v + unsigned_abs d
abs-moved true v d = omega (arith, ints)
abs-moved false v d = omega (arith, ints)

-- a change, by the values that are read
pub abs-change : (s : Step) (b : ℕ) (xs : List ℤ) (n : ℕ) → PlacesWithin b (1 - s.parity) xs → unsigned_abs (change_at s xs n) ≤ (sum_by unsigned_abs s.taps * b + 2 ^ s.shift / 2) / 2 ^ s.shift
abs-change s b xs n h =
    let sum : unsigned_abs (weighted s.taps (value_read s.parity s.lead xs n) (length s.taps)) ≤ sum_by unsigned_abs s.taps * b =
    abs-weighted s.taps (value_read s.parity s.lead xs n) b (λ k. h _) in
    omega (
      arith,
      abs-rounded (weighted s.taps (value_read s.parity s.lead xs n) (length s.taps)) s.shift,
      div_mono (unsigned_abs (weighted s.taps (value_read s.parity s.lead xs n) (length s.taps)) + 2 ^ s.shift / 2) (sum_by unsigned_abs s.taps * b + 2 ^ s.shift / 2) (2 ^ s.shift) (pow_pos s.shift) (omega (arith, sum)),
    )

pub abs-new : (s : Step) (a b : ℕ) (xs : List ℤ) (n : ℕ) → PlacesWithin a s.parity xs → PlacesWithin b (1 - s.parity) xs → unsigned_abs (new_at s xs n) ≤ grown_by_step s a b
abs-new s a b xs n ha hb =
    omega (arith, abs-moved s.minus (get_or xs (own s.parity n) (pos 0)) (change_at s xs n), ha n, abs-change s b xs n hb)

pub own_grown : (s : Step) (a b : ℕ) (xs : List ℤ) → s.parity ≤ 1 → length xs % 2 ≡ 0 → PlacesWithin a s.parity xs → PlacesWithin b (1 - s.parity) xs → PlacesWithin (grown_by_step s a b) s.parity (lift s xs)
own_grown s a b xs p even ha hb n =
    let all : LiftedBelow s xs (lift s xs) (length xs / 2) = lift_below s xs p even in
    elim (cases_lt n (length xs / 2)) [
      | inl inside ↦ rw (all.done n inside) (abs-new s a b xs n ha hb)
      | inr past ↦ rw (all.rest n past) (omega (arith, ha n))
    ]

pub other_kept : (s : Step) (b : ℕ) (xs : List ℤ) → s.parity ≤ 1 → length xs % 2 ≡ 0 → PlacesWithin b (1 - s.parity) xs → PlacesWithin b (1 - s.parity) (lift s xs)
other_kept s b xs p even h n =
    let all : LiftedBelow s xs (lift s xs) (length xs / 2) = lift_below s xs p even in
    rw (all.kept n) (h n)
