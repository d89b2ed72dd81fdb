-- Bounds on the values of lists and tables.
use Rattle.std.proofs.Common.{ℕ, ℤ, pos, ◌*◌, ◌/◌, ◌%◌, ◌<◌, ◌≤◌, unsigned_abs, List, length, get_or, arith, inl, inr}
use Rattle.std.specs.List.{All}
use Rattle.std.proofs.lemmas.Bool.{cases_lt}
use Rattle.std.proofs.lemmas.List.{get_or_past}
use Rattle.std.proofs.lemmas.List.FromFn.{get_or-map-range_with_len, length-map-range_with_len}
use Rattle.dirac_common.specs.Table.{filled}

pub all_weaker : (a b : ℕ) (xs : List ℤ) → a ≤ b → All (λ v. unsigned_abs v ≤ a) xs → All (λ v. unsigned_abs v ≤ b) xs
all_weaker a b xs l all k d i = omega (arith, l, all k d i)

-- a bound on all values bounds what is read anywhere
pub values_bound : (b : ℕ) (xs : List ℤ) → All (λ v. unsigned_abs v ≤ b) xs → (q : ℕ) → unsigned_abs (get_or xs q (pos 0)) ≤ b
values_bound b xs all q = elim (cases_lt q (length xs)) [
  | inl inside ↦ all q (pos 0) inside
  | inr past ↦ rw (get_or_past xs q (pos 0) past) (omega arith)
]

-- a bound on what tells a table bounds its values
pub told_bound : (b w h : ℕ) (f : ℕ → ℕ → ℤ) → ((x y : ℕ) → unsigned_abs (f x y) ≤ b) → All (λ v. unsigned_abs v ≤ b) (filled w h f)
unfolding filled
told_bound b w h f each k d l =
    let inside : k < w * h = omega (arith, l, length-map-range_with_len (λ p. f (p % w) (p / w)) 0 (w * h)) in
    rw (get_or-map-range_with_len (λ p. f (p % w) (p / w)) 0 (w * h) k k d inside (omega arith)) (each (k % w) (k / w))
