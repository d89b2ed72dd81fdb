-- The weights of a block, and its share of a place, line by line.
use Rattle.std.proofs.Common.{◌≡◌, ◌≢◌, ℕ, ◌+◌, ◌-◌, ◌*◌, ◌≤◌, ◌<◌, arith}
use Rattle.std.proofs.lemmas.Bool.Decides.{nat_tests}
use Rattle.dirac_obmc.specs.Weights.{IsOverlap, block_margin, ramp, share, weight_at}

-- a block's length is its separation and both margins
pub record IsSized (length separation : ℕ) : Type 0 where
  pub some : 1 ≤ separation
  pub length_is : length ≡ separation + 2 * block_margin length separation
  pub half : 2 * block_margin length separation ≤ separation

pub sized : (length separation : ℕ) → IsOverlap length separation → IsSized length separation
sized length separation o = record { some = o.some; length_is = omega (arith, o.even, o.least); half = omega (arith, o.most) }

pub weight_first : (count length separation t : ℕ) → 2 * t < length → weight_at 0 count length separation t ≡ 8
unfolding weight_at
weight_first count length separation t l = grind (arith, nat_tests)

pub weight_last : (block count length separation t : ℕ) → block + 1 ≡ count → length ≤ 2 * t → weight_at block count length separation t ≡ 8
unfolding weight_at
weight_last block count length separation t e l = grind (arith, nat_tests)

pub weight_rising : (block count length separation t : ℕ) → block ≢ 0 → 2 * t < length → t < 2 * block_margin length separation
    → weight_at block count length separation t ≡ ramp (block_margin length separation) t
unfolding weight_at
weight_rising block count length separation t n l h = grind (arith, nat_tests)

pub weight_falling : (block count length separation t : ℕ) → block + 1 ≢ count → length ≤ 2 * t → 2 * block_margin length separation ≤ t → length - 1 - 2 * block_margin length separation < t
    → weight_at block count length separation t ≡ ramp (block_margin length separation) (length - 1 - t)
unfolding weight_at
weight_falling block count length separation t n l h k = grind (arith, nat_tests)

pub weight_flat : (block count length separation t : ℕ) → 2 * block_margin length separation ≤ t → t ≤ length - 1 - 2 * block_margin length separation
    → weight_at block count length separation t ≡ 8
unfolding weight_at
weight_flat block count length separation t l h = grind (arith, nat_tests)

-- places before a block, behind it, and in it
pub share_before : (block count length separation x : ℕ) → x + block_margin length separation < block * separation → share block count length separation x ≡ 0
unfolding share
share_before block count length separation x l = grind (arith, nat_tests)

pub share_behind : (block count length separation x : ℕ) → block * separation + length ≤ x + block_margin length separation → share block count length separation x ≡ 0
unfolding share
share_behind block count length separation x l = grind (arith, nat_tests)

pub share_inside : (block count length separation x t : ℕ) → x + block_margin length separation ≡ block * separation + t → t < length
    → share block count length separation x ≡ weight_at block count length separation t
unfolding share
share_inside block count length separation x t e l =
    let place : x + block_margin length separation - block * separation ≡ t = omega arith in
    rw place (grind (arith, nat_tests))
