-- The interval that a decision keeps.
use Rattle.std.proofs.Common.{◌≡◌, ℕ, ◌+◌, ◌-◌, ◌*◌, ◌^◌, ◌<◌, ◌≤◌, Bool, true, false, List, slice_index, slice_set, refl, ap, ◌∙◌, arith, add-zero, suc, inl, inr, mul-le-mul_left, mul-le-mul_right}
use Rattle.std.proofs.lemmas.Bool.{cases_lt}
use Rattle.std.proofs.lemmas.Nat.{shl-shr}
use Rattle.dirac_arith.specs.declared.registers.Registers.{Registers}
use Rattle.dirac_arith.specs.Front.{front}
use Rattle.dirac_arith.specs.Interval.{Interval, doublings_for, adapted, split_width, interval_kept, widened, narrowed}
use Rattle.dirac_arith.specs.Carried.{Lies}
use Rattle.dirac_arith.specs.Registers.{Stands, low_of, doublings_of, part_width, lift_of}
use Rattle.dirac_arith.proofs.Fronts.{front_longer, rest_below}

-- the registers stand for one low end
pub low_is : (block : List ℕ) (r : Registers) (low k : ℕ) → Stands block r low k → low_of block r ≡ low
low_is block r low k stands =
    let code = stands.code in
    let e : front block (8 * r.next) - r.window ≡ low * 2 ^ r.ahead = omega arith in
    rw e (shl-shr low r.ahead)

pub doublings_is : (block : List ℕ) (r : Registers) (low k : ℕ) → Stands block r low k → doublings_of r ≡ k
doublings_is block r low k stands = let bits = stands.bits in omega arith

pub stands_self : (block : List ℕ) (r : Registers) (low k : ℕ) → Stands block r low k → Stands block r (low_of block r) (doublings_of r)
stands_self block r low k stands = rw (low_is block r low k stands, doublings_is block r low k stands) stands

-- an interval by its parts
pub same_interval : (low low' range range' doublings doublings' : ℕ) (contexts contexts' : List ℕ)
    → low ≡ low' → range ≡ range' → doublings ≡ doublings' → contexts ≡ contexts'
    → let made : Interval = record { low = low; range = range; doublings = doublings; contexts = contexts } in
    made ≡ record { low = low'; range = range'; doublings = doublings'; contexts = contexts' }
same_interval low low' range range' doublings doublings' contexts contexts' l r d c =
    let make : ℕ → ℕ → ℕ → List ℕ → Interval = λ x y z w. record { low = x; range = y; doublings = z; contexts = w } in
    ap (λ x. make x range doublings contexts) l
    ∙ ap (λ x. make low' x doublings contexts) r
    ∙ ap (λ x. make low' range' x contexts) d
    ∙ ap (λ x. make low' range' doublings' x) c

-- the interval after a decision, by its parts
pub narrowed_is : (s : Interval) (context : ℕ) (truth : Bool) (low range doublings : ℕ) (contexts : List ℕ)
    → low ≡ (s.low + lift_of (split_width s context) truth) * 2 ^ doublings_for (part_width s.range (split_width s context) truth)
    → range ≡ part_width s.range (split_width s context) truth * 2 ^ doublings_for (part_width s.range (split_width s context) truth)
    → doublings ≡ s.doublings + doublings_for (part_width s.range (split_width s context) truth)
    → contexts ≡ slice_set s.contexts context (adapted (slice_index s.contexts context) truth)
    → let made : Interval = record { low = low; range = range; doublings = doublings; contexts = contexts } in
    made ≡ narrowed s (context, truth)
narrowed_is s context true low range doublings contexts l r d c = same_interval _ _ _ _ _ _ _ _ l r d c
narrowed_is s context false low range doublings contexts l r d c =
    let e : s.low + 0 ≡ s.low = add-zero s.low in
    same_interval _ _ _ _ _ _ _ _ (l ∙ ap (λ x. x * 2 ^ doublings_for (split_width s context)) e) r d c

-- where the front lies after doublings, it lay before them
pub lies_before_doublings : (block : List ℕ) (low range k j : ℕ) → low * 2 ^ j ≤ front block (16 + (k + j)) → front block (16 + (k + j)) < low * 2 ^ j + range * 2 ^ j
    → (low ≤ front block (16 + k)) × (front block (16 + k) < low + range)
lies_before_doublings block low range k j above below =
    let sum : 16 + (k + j) ≡ 16 + k + j = omega arith in
    let longer = front_longer block (16 + k) j in
    let rest = rest_below block (16 + k) j in
    let high = rw sum at above in
    let less = rw sum at below in
    let front' = front block (16 + k) in (
      elim (cases_lt front' low) [
        | inl short ↦ let h = mul-le-mul_right {m = suc front'} {n = low} (2 ^ j) short in absurd (omega arith)
        | inr enough ↦ enough
      ],
      elim (cases_lt front' (low + range)) [
        | inl short ↦ short
        | inr past ↦ let h = mul-le-mul_right {m = low + range} {n = front'} (2 ^ j) past in absurd (omega arith)
      ],
    )

pub lies_widened : (block : List ℕ) (s : Interval) → Lies block (widened s) → Lies block s
lies_widened block s lies =
    let before = lies_before_doublings block s.low s.range s.doublings (doublings_for s.range) lies.above lies.below in
    record { above = before.0; below = before.1 }

-- the parts of true and of false have no number in common
pub one_truth : (block : List ℕ) (s : Interval) (context : ℕ) (t t' : Bool) → Lies block (narrowed s (context, t)) → Lies block (narrowed s (context, t')) → t ≡ t'
one_truth block s context true true h h' = refl
one_truth block s context false false h h' = refl
one_truth block s context true false h h' =
    let upper = lies_widened block (interval_kept s context true) h in
    let lower = lies_widened block (interval_kept s context false) h' in
    absurd (omega (arith, upper.above, lower.below))
one_truth block s context false true h h' =
    let lower = lies_widened block (interval_kept s context false) h in
    let upper = lies_widened block (interval_kept s context true) h' in
    absurd (omega (arith, upper.above, lower.below))

-- each part lies in the interval
pub lies_kept : (block : List ℕ) (s : Interval) (context : ℕ) (t : Bool) → slice_index s.contexts context ≤ 65536 → Lies block (narrowed s (context, t)) → Lies block s
lies_kept block s context true fits h =
    let upper = lies_widened block (interval_kept s context true) h in
    let above = upper.above in
    let below = upper.below in
    record { above = omega arith; below = omega arith }
lies_kept block s context false fits h =
    let lower = lies_widened block (interval_kept s context false) h in
    let above = lower.above in
    let below = lower.below in
    let most = mul-le-mul_left s.range fits in
    let split : split_width s context ≤ s.range = omega arith in
    record { above = above; below = omega arith }
