-- A lifting step that reads zeros changes nothing.
use Rattle.std.proofs.Common.{◌≡◌, ℕ, ℤ, pos, negsuc, Bool, true, false, ◌+◌, ◌-◌, ◌*◌, ◌%◌, ◌<◌, ◌≤◌, List, length, get_or, drop, slice_range, arith, refl, inl, inr, ap, sym, ◌∙◌}
use Rattle.std.proofs.lemmas.Bool.{cases_lt}
use Rattle.std.proofs.lemmas.Int.{ints}
use Rattle.std.proofs.lemmas.List.{get_or-drop, get_or-take, get_or_past}
use Rattle.dirac_lift.specs.Halves.{HalfLifted, half_read}
use Rattle.dirac_lift.specs.Lanes.{RunPut}
use Rattle.dirac_lift.specs.Lifting.{Step, moved, pair_read, rounded, weighted}
use Rattle.dirac_lift.specs.Rings.{ring_read, ring_value}
use Rattle.dirac_lift.proofs.Turns.{weighted_below}
use Rattle.dirac_lift.proofs.ZerosKept.{rounded_zero, weighted_zeros}

moved_by_none : (minus : Bool) (v : ℤ) → moved minus v (pos 0) ≡ v
moved_by_none true (pos n) = omega (arith, ints)
moved_by_none true (negsuc n) = omega (arith, ints)
moved_by_none false (pos n) = omega (arith, ints)
moved_by_none false (negsuc n) = omega (arith, ints)

still : (s : Step) (v : ℤ) (f : ℕ → ℤ) → ((k : ℕ) → k < length s.taps → f k ≡ pos 0) → moved s.minus v (rounded s.shift (weighted s.taps f (length s.taps))) ≡ v
still s v f zeros =
    ap (λ z. moved s.minus v (rounded s.shift z)) (weighted_below s.taps f (λ k. pos 0) (length s.taps) zeros ∙ weighted_zeros s.taps (λ k. pos 0) (length s.taps) (λ k. refl))
    ∙ ap (moved s.minus v) (rounded_zero s.shift)
    ∙ moved_by_none s.minus v

-- what a list of zeros has at any place
zeros_at : (xs : List ℤ) → ((k : ℕ) → k < length xs → get_or xs k (pos 0) ≡ pos 0) → (k : ℕ) → get_or xs k (pos 0) ≡ pos 0
zeros_at xs zeros k = elim (cases_lt k (length xs)) [
  | inl inside ↦ zeros k inside
  | inr past ↦ get_or_past xs k (pos 0) past
]

-- of a line
pub line_still : (s : Step) (owns reads : List ℤ) → ((k : ℕ) → k < length reads → get_or reads k (pos 0) ≡ pos 0) → HalfLifted s 1 (length owns) owns reads owns
line_still s owns reads zeros = record {
  len = refl;
  each = λ n x a b. sym (still s (get_or owns (n * 1 + x) (pos 0)) (half_read s.lead 1 (length owns) reads n x) (λ k l. zeros_at reads zeros (pair_read s.lead (length owns) n k * 1 + x)));
}

-- what a part of a list has, the list has there
pub part_zeros : (xs : List ℤ) (from to p : ℕ) → ((k : ℕ) → k < length (slice_range xs from to) → get_or (slice_range xs from to) k (pos 0) ≡ pos 0) → from ≤ p → p < to → get_or xs p (pos 0) ≡ pos 0
part_zeros xs from to p zeros l m =
    let place : from + (p - from) ≡ p = omega (arith, l) in
    ap (λ i. get_or xs i (pos 0)) (sym place)
    ∙ sym (get_or-take (to - from) (drop from xs) (p - from) (pos 0) (omega (arith, l, m)) ∙ get_or-drop from xs (p - from) (pos 0))
    ∙ zeros_at (slice_range xs from to) zeros (p - from)

-- a value of a row for which zeros are read
row_stays : (s : Step) (w h n x : ℕ) (owns reads : List ℤ) → ((k : ℕ) → k < length s.taps → ring_read s.lead w h reads n x k ≡ pos 0) → ring_value s w h owns reads n x ≡ get_or owns ((n % 16) * w + x) (pos 0)
row_stays s w h n x owns reads zeros = still s (get_or owns ((n % 16) * w + x) (pos 0)) (ring_read s.lead w h reads n x) zeros

-- the front of such a row
pub front_still : (s : Step) (w h n from : ℕ) (owns reads : List ℤ) → ((k x : ℕ) → k < length s.taps → x < from → ring_read s.lead w h reads n x k ≡ pos 0) → RunPut ((n % 16) * w) from (ring_value s w h owns reads n) owns owns
front_still s w h n from owns reads zeros = record {
  len = refl;
  inside = λ x l. sym (row_stays s w h n x owns reads (λ k kl. zeros k x kl l));
  before = λ k l. refl;
  behind = λ k l. refl;
}

-- its end
pub end_still : (s : Step) (w h n x : ℕ) (owns reads new : List ℤ) → RunPut ((n % 16) * w) x (ring_value s w h owns reads n) owns new → x ≤ w → ((k y : ℕ) → k < length s.taps → x ≤ y → y < w → ring_read s.lead w h reads n y k ≡ pos 0) → RunPut ((n % 16) * w) w (ring_value s w h owns reads n) owns new
end_still s w h n x owns reads new r l zeros = record {
  len = r.len;
  inside = λ y m. elim (cases_lt y x) [
    | inl done ↦ r.inside y done
    | inr rest ↦ r.behind ((n % 16) * w + y) (omega (arith, rest)) ∙ sym (row_stays s w h n y owns reads (λ k kl. zeros k y kl rest m))
  ];
  before = r.before;
  behind = λ k m. r.behind k (omega (arith, m, l));
}
