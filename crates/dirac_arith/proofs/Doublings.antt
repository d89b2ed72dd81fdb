-- How many doublings a range needs, and where they take it.
use Rattle.std.proofs.Common.{◌≡◌, ℕ, zero, suc, ◌+◌, ◌-◌, ◌*◌, ◌/◌, ◌^◌, ◌<◌, ◌≤◌, Bool, true, false, nat_lt, inl, inr, refl, ap, ◌∙◌, arith, mul-le-mul_left, mul-le-mul_right}
use Rattle.std.proofs.Math.Nat.{pow-le-pow_right}
use Rattle.std.proofs.lemmas.Nat.{pow_pos, pow-add, leading_top, le-div, div_below, mul-le}
use Rattle.std.proofs.lemmas.Bool.{cases_lt, lt-ltb, le-ltb, cond-true, cond-false}
use Rattle.std.specs.Int.Count.{count_leading_zeros}
use Rattle.dirac_arith.specs.Interval.{least_passing, doublings_for}
use Rattle.dirac_arith.proofs.Fronts.{twice_pow}

-- the least number that passes is the one that none below it does
pub least_is : (p : ℕ → Bool) (limit i : ℕ) → i ≤ limit → ((j : ℕ) → j < i → p j ≡ false) → p i ≡ true → least_passing p limit ≡ i
least_is p zero zero most none here = refl
least_is p zero (suc i) most none here = absurd (omega arith)
least_is p (suc limit) zero most none here = cond-true (p 0) 0 (suc (least_passing (λ i. p (suc i)) limit)) here
least_is p (suc limit) (suc i) most none here =
    cond-false (p 0) 0 (suc (least_passing (λ i. p (suc i)) limit)) (none 0 (omega arith))
    ∙ ap suc (least_is (λ i. p (suc i)) limit i (omega arith) (λ j h. none (suc j) (omega arith)) here)

-- the least power of two that takes a range between two powers above 0x4000
pub doublings_are : (range m : ℕ) → 2 ^ m < range → range ≤ 2 ^ suc m → m ≤ 14 → doublings_for range ≡ 14 - m
unfolding doublings_for
doublings_are range m above below most =
    let d = 14 - m in
    let full : 2 ^ (m + d) ≡ 2 ^ m * 2 ^ d = pow-add 2 m d in
    let sum : m + d ≡ 14 = omega arith in
    let whole : 16384 ≡ 2 ^ m * 2 ^ d = rw sum at full in
    let grown = mul-le-mul_right {m = suc (2 ^ m)} {n = range} (2 ^ d) (omega arith) in
    let positive = pow_pos d in
    let passes : 0x4000 < range * 2 ^ d = omega arith in
    least_is (λ j. nat_lt 0x4000 (range * 2 ^ j)) 16 d (omega arith)
    (λ j h.
    let part : 2 ^ (suc m + j) ≡ 2 ^ suc m * 2 ^ j = pow-add 2 (suc m) j in
    let less = mul-le-mul_right {m = range} {n = 2 ^ suc m} (2 ^ j) (omega arith) in
    let low = pow-le-pow_right {n = 2} (omega arith) {i = suc m + j} {j = 14} (omega arith) in
    le-ltb 0x4000 (range * 2 ^ j) (omega arith))
    (lt-ltb 0x4000 (range * 2 ^ d) passes)

-- a range above 0x4000 needs none
pub doublings_none : (range : ℕ) → 0x4000 < range → doublings_for range ≡ 0
unfolding doublings_for
doublings_none range wide =
    least_is (λ j. nat_lt 0x4000 (range * 2 ^ j)) 16 0 (omega arith) (λ j h. absurd (omega arith)) (lt-ltb 0x4000 (range * 1) (omega arith))

-- the doublings of a range and where they take it
pub record Doubles (range count : ℕ) : Type 0 where
  pub exact : doublings_for range ≡ count
  pub few : 32 < range → count ≤ 9
  pub wide : 0x4000 < range * 2 ^ count
  pub narrow : range * 2 ^ count ≤ 0xFFFF

-- the doublings by the leading zeros
pub doubles : (range m : ℕ) → range ≤ 0xFFFF → 2 ^ m ≤ range - 1 → range - 1 < 2 ^ suc m → Doubles range (14 - m)
doubles range m narrow above below =
    elim (cases_lt m 15) [
      | inl small ↦
          let d = 14 - m in
          let positive = pow_pos m in
          let full : 2 ^ (m + d) ≡ 2 ^ m * 2 ^ d = pow-add 2 m d in
          let sum : m + d ≡ 14 = omega arith in
          let whole : 16384 ≡ 2 ^ m * 2 ^ d = rw sum at full in
          let twice : 2 ^ suc m ≡ 2 * 2 ^ m = twice_pow m in
          let grown = mul-le-mul_right {m = suc (2 ^ m)} {n = range} (2 ^ d) (omega arith) in
          let most = mul-le-mul_right {m = range} {n = 2 * 2 ^ m} (2 ^ d) (omega arith) in
          let some = pow_pos d in
          record {
            exact = doublings_are range m (omega arith) (omega arith) (omega arith);
            few = λ h.
                elim (cases_lt m 5) as (λ _. d ≤ 9) [
                  | inl less ↦
                      let low = pow-le-pow_right {n = 2} (omega arith) {i = suc m} {j = 5} (omega arith) in
                      absurd (omega arith)
                  | inr more ↦ omega arith
                ];
            wide = omega arith;
            narrow = omega arith;
          }
      | inr large ↦
          let high = pow-le-pow_right {n = 2} (omega arith) {i = 15} {j = m} (omega arith) in
          let none : 14 - m ≡ 0 = omega arith in
          rw none (record { exact = doublings_none range (omega arith); few = λ h. omega arith; wide = omega arith; narrow = omega arith })
    ]

-- the same where the leading zeros are counted
pub doubles_by_zeros : (range : ℕ) → 1 < range → range ≤ 0xFFFF → Doubles range (count_leading_zeros 32 (range - 1) - 17)
doubles_by_zeros range some narrow =
    let top = leading_top 32 (range - 1) (omega arith) (omega arith) in
    let e : count_leading_zeros 32 (range - 1) - 17 ≡ 14 - top.0 = omega arith in
    rw e (doubles range top.0 narrow top.2 top.3)

-- the place of the upper bit is at most 14, or 15 where the number before the range is above 32767
pub place_at_most : (range : ℕ) → 1 < range → range ≤ 0xFFFF
    → 31 - count_leading_zeros 32 (range - 1) ≤ 14 + (range - 1) / 32768
place_at_most range some narrow =
    let top = leading_top 32 (range - 1) (omega arith) (omega arith) in
    elim (cases_lt top.0 15) [
      | inl small ↦ omega arith
      | inr large ↦
          let low = pow-le-pow_right {n = 2} (omega arith) {i = 15} {j = top.0} large in
          elim (cases_lt top.0 16) [
            | inl less ↦ omega arith
            | inr more ↦ let high = pow-le-pow_right {n = 2} (omega arith) {i = 16} {j = top.0} more in absurd (omega arith)
          ]
    ]

-- the same by the place of the upper bit
pub doubles_by_place : (range : ℕ) → 1 < range → range ≤ 0xFFFF
    → Doubles range (14 + (range - 1) / 32768 - (31 - count_leading_zeros 32 (range - 1)))
doubles_by_place range some narrow =
    let top = leading_top 32 (range - 1) (omega arith) (omega arith) in
    let found = doubles range top.0 narrow top.2 top.3 in
    elim (cases_lt top.0 15) [
      | inl small ↦
          let high = pow-le-pow_right {n = 2} (omega arith) {i = suc top.0} {j = 15} (omega arith) in
          let e : 14 + (range - 1) / 32768 - (31 - count_leading_zeros 32 (range - 1)) ≡ 14 - top.0 = omega arith in
          rw e found
      | inr large ↦
          let low = pow-le-pow_right {n = 2} (omega arith) {i = 15} {j = top.0} large in
          let e : 14 + (range - 1) / 32768 - (31 - count_leading_zeros 32 (range - 1)) ≡ 14 - top.0 = omega arith in
          rw e found
    ]

-- where the doublings take a range
pub widens : (range : ℕ) → 1 < range → range ≤ 0xFFFF → Doubles range (doublings_for range)
widens range some narrow =
    let found = doubles_by_zeros range some narrow in
    rw found.exact found

-- both parts of a range are above 32
pub split_bounds : (range probability : ℕ) → 0x4000 < range → range ≤ 0xFFFF → 254 ≤ probability → probability ≤ 65281
    → (32 < range * probability / 65536) × (range * probability / 65536 + 32 < range)
split_bounds range probability wide narrow low high =
    let least = mul-le 16385 254 range probability (omega arith) low in
    let most = mul-le-mul_left range high in (
      le-div 33 (range * probability) 65536 (omega arith) (omega arith),
      let below = div_below (range * probability) 65536 (range - 32) (omega arith) (omega arith) in omega arith,
    )
