-- The weights of all blocks at a place sum to 8.
use Rattle.std.proofs.Common.{◌≡◌, ℕ, zero, suc, ◌+◌, ◌-◌, ◌*◌, ◌/◌, ◌%◌, ◌≤◌, ◌<◌, arith, inl, inr, ap, sym, ◌∙◌}
use Rattle.std.proofs.lemmas.Bool.{cases_eq, cases_lt}
use Rattle.std.proofs.lemmas.Nat.{row_fits, mod_below, div-add-mod'}
use Rattle.dirac_obmc.specs.Weights.{IsOverlap, block_margin, ramp, share, sum_below}
use Rattle.dirac_obmc.proofs.FewTerms.{sum_one, sum_two}
use Rattle.dirac_obmc.proofs.Ramps.{ramps}
use Rattle.dirac_obmc.proofs.Shares.{IsSized, sized, weight_first, weight_last, weight_rising, weight_falling, weight_flat, share_before, share_behind, share_inside}

-- a block that starts behind the place, or ends before it
others_behind : (i b count length separation x r : ℕ) → x + block_margin length separation ≡ b * separation + r → r < separation → b < i → share i count length separation x ≡ 0
others_behind i b count length separation x r e rest l =
    share_before i count length separation x (omega (arith, row_fits b separation i separation l (omega arith)))

two_before : (i b separation : ℕ) → i + 1 < b → i * separation + 2 * separation ≤ b * separation
two_before i b separation l =
    let next : i < i + 1 = omega arith in
    omega (arith, row_fits i separation (i + 1) separation next (omega arith), row_fits (i + 1) separation b separation l (omega arith))

others_before : (i b count length separation x r : ℕ) → IsSized length separation → x + block_margin length separation ≡ b * separation + r → i + 1 < b → share i count length separation x ≡ 0
others_before i b count length separation x r s e l =
    share_behind i count length separation x (omega (arith, two_before i b separation l, s.length_is, s.half))

-- where no other block overlaps, the block before has ended
last_before : (i b count length separation x r : ℕ) → IsSized length separation → x + block_margin length separation ≡ b * separation + r → 2 * block_margin length separation ≤ r → i < b → share i count length separation x ≡ 0
last_before i b count length separation x r s e flat l =
    share_behind i count length separation x (omega (arith, row_fits i separation b separation l (omega arith), s.length_is))

-- in the part of block b that it has alone
alone : (b count length separation x r : ℕ) → IsSized length separation → x + block_margin length separation ≡ b * separation + r → r < separation → 2 * block_margin length separation ≤ r → b < count
    → sum_below (λ i. share i count length separation x) count ≡ 8
alone b count length separation x r s e rest flat inside =
    sum_one (λ i. share i count length separation x) count b inside
    (λ i l d. elim (cases_lt i b) [
      | inl before ↦ last_before i b count length separation x r s e flat before
      | inr behind ↦ others_behind i b count length separation x r e rest (omega arith)
    ])
    ∙ share_inside b count length separation x r e (omega (arith, s.length_is))
    ∙ weight_flat b count length separation r flat (omega (arith, s.length_is))

-- in the margin before the first block's own part, and in the overlap that the first block has alone
at_first : (count length separation x r : ℕ) → IsSized length separation → x + block_margin length separation ≡ r → r < 2 * block_margin length separation → 0 < count
    → sum_below (λ i. share i count length separation x) count ≡ 8
at_first count length separation x r s e rise some =
    let place : x + block_margin length separation ≡ 0 * separation + r = omega arith in
    sum_one (λ i. share i count length separation x) count 0 some
    (λ i l d. others_behind i 0 count length separation x r place (omega (arith, s.half)) (omega arith))
    ∙ share_inside 0 count length separation x r place (omega (arith, s.length_is))
    ∙ weight_first count length separation r (omega (arith, s.length_is, s.half))

-- in the overlap of blocks b and b + 1
overlapped : (b count length separation x r : ℕ) → IsSized length separation → x + block_margin length separation ≡ (b + 1) * separation + r → r < 2 * block_margin length separation → b + 1 < count
    → sum_below (λ i. share i count length separation x) count ≡ 8
overlapped b count length separation x r s e rise inside =
    let before : x + block_margin length separation ≡ b * separation + (separation + r) = omega (arith, e) in
    let opposite : length - 1 - (separation + r) ≡ 2 * block_margin length separation - 1 - r = omega (arith, s.length_is) in
    let falls : share b count length separation x ≡ ramp (block_margin length separation) (length - 1 - (separation + r)) =
    share_inside b count length separation x (separation + r) before (omega (arith, s.length_is))
    ∙ weight_falling b count length separation (separation + r) (omega arith) (omega (arith, s.length_is, s.half)) (omega (arith, s.half)) (omega (arith, s.length_is, s.some)) in
    let rises : share (b + 1) count length separation x ≡ ramp (block_margin length separation) r =
    share_inside (b + 1) count length separation x r e (omega (arith, s.length_is))
    ∙ weight_rising (b + 1) count length separation r (omega arith) (omega (arith, s.length_is, s.half)) rise in
    sum_two (λ i. share i count length separation x) count b inside
    (λ i l d n. elim (cases_lt i b) [
      | inl first ↦ others_before i (b + 1) count length separation x r s e (omega arith)
      | inr behind ↦ others_behind i (b + 1) count length separation x r e (omega (arith, s.half)) (omega arith)
    ])
    ∙ (omega (arith, falls, rises, ramps (block_margin length separation) r (length - 1 - (separation + r)) rise opposite))

-- in the overlap that the last block has alone
at_last : (b count length separation x r : ℕ) → IsSized length separation → x + block_margin length separation ≡ (b + 1) * separation + r → r < 2 * block_margin length separation → b + 1 ≡ count
    → sum_below (λ i. share i count length separation x) count ≡ 8
at_last b count length separation x r s e rise end =
    let before : x + block_margin length separation ≡ b * separation + (separation + r) = omega (arith, e) in
    sum_one (λ i. share i count length separation x) count b (omega arith)
    (λ i l d. others_before i (b + 1) count length separation x r s e (omega arith))
    ∙ share_inside b count length separation x (separation + r) before (omega (arith, s.length_is))
    ∙ weight_last b count length separation (separation + r) end (omega (arith, s.length_is, s.half))

-- the last block ends behind the plane
reached : (b count length separation x r : ℕ) → IsSized length separation → x + block_margin length separation ≡ b * separation + r → x < count * separation → b < count + 1
reached b count length separation x r s e inside = elim (cases_lt b (count + 1)) [
  | inl l ↦ l
  | inr l ↦ let past : count * separation + separation ≤ b * separation = row_fits count separation b separation (omega arith) (omega arith) in
      absurd (omega (arith, s.half, s.some, past))
]

in_flat : (b count length separation x r : ℕ) → IsSized length separation → x + block_margin length separation ≡ b * separation + r → x < count * separation → 2 * block_margin length separation ≤ r → b < count
in_flat b count length separation x r s e inside flat = elim (cases_lt b count) [
  | inl l ↦ l
  | inr l ↦ let past : count * separation ≤ b * separation = le_times count b separation l in
      absurd (omega (arith, past))
] where
  le_times : (m n k : ℕ) → m ≤ n → m * k ≤ n * k
  le_times m n k l = elim (cases_eq m n) [
    | inl same ↦ omega (arith, ap (λ i. i * k) same)
    | inr less ↦ omega (arith, row_fits m k n k (omega arith) (omega arith))
  ]

by_block : (b count length separation x r : ℕ) → IsSized length separation → x + block_margin length separation ≡ b * separation + r → r < separation → r < 2 * block_margin length separation → x < count * separation
    → b < count + 1 → 0 < count → sum_below (λ i. share i count length separation x) count ≡ 8
by_block zero count length separation x r s e rest rise inside l some =
    at_first count length separation x r s (omega (arith, e)) rise some
by_block (suc b) count length separation x r s e rest rise inside l some =
    let place : x + block_margin length separation ≡ (b + 1) * separation + r = e ∙ ap (λ i. i * separation + r) (omega arith) in
    elim (cases_eq (b + 1) count) [
      | inl end ↦ at_last b count length separation x r s place rise end
      | inr more ↦ overlapped b count length separation x r s place rise (omega arith)
    ]

pub eight : (count length separation x : ℕ) → IsOverlap length separation → x < count * separation → sum_below (λ i. share i count length separation x) count ≡ 8
eight count length separation x o inside =
    let s = sized length separation o in
    let b = (x + block_margin length separation) / separation in
    let r = (x + block_margin length separation) % separation in
    let place : x + block_margin length separation ≡ b * separation + r = sym (div-add-mod' (x + block_margin length separation) separation) in
    let rest : r < separation = mod_below (x + block_margin length separation) separation (omega (arith, o.some)) in
    let some : 0 < count = positive count separation x inside in
    elim (cases_lt r (2 * block_margin length separation)) [
      | inl rise ↦ by_block b count length separation x r s place rest rise inside (reached b count length separation x r s place inside) some
      | inr flat ↦ alone b count length separation x r s place rest flat (in_flat b count length separation x r s place inside flat)
    ] where
      positive : (n k y : ℕ) → y < n * k → 0 < n
      positive zero k y l = absurd (omega arith)
      positive (suc n) k y l = omega arith
