-- How much a block counts at a sample of its plane: overlapped blocks, Dirac specification.
use Rattle.std.specs.Prelude.{◌≡◌, ℕ, zero, suc, ◌+◌, ◌-◌, ◌*◌, ◌/◌, ◌%◌, ◌≤◌, ◌==◌, nat_lt, nat_le, ◌&&◌}
use Rattle.std.specs.Prelude.{if◌then◌else◌}
pub use Rattle.dirac_upconvert.specs.Places.{holds, block_margin}

-- the weights that rise over an overlap of twice the margin
abbrev pub ramp : ℕ → ℕ → ℕ
ramp margin t =
    if margin == 1
    then (if t == 0 then 3 else 5)
    else 1 + (6 * t + margin - 1) / (2 * margin - 1)

-- the weight at place t of a block, where that many blocks stand side by side: the first of these lines that applies
unfoldable pub weight_at : ℕ → ℕ → ℕ → ℕ → ℕ → ℕ
weight_at block count length separation t =
    if block == 0 && nat_lt (2 * t) length then 8
    else if block + 1 == count && nat_le length (2 * t) then 8
    else if nat_lt t (2 * block_margin length separation) then ramp (block_margin length separation) t
    else if nat_lt (length - 1 - 2 * block_margin length separation) t then ramp (block_margin length separation)
    (length - 1 - t)
    else 8

-- the weight of a block at place x of its plane; a block that doesn't hold the place counts nothing
unfoldable pub share : ℕ → ℕ → ℕ → ℕ → ℕ → ℕ
share block count length separation x =
    if holds block length separation x
    then weight_at block count length separation (x + block_margin length separation - block * separation)
    else 0

-- lengths and separations at which blocks overlap their neighbours alone, as far on either side
pub record IsOverlap (length separation : ℕ) : Type 0 where
  pub some : 1 ≤ separation
  pub least : separation ≤ length
  pub most : length ≤ 2 * separation
  pub even : (length - separation) % 2 ≡ 0
  pub small : length ≤ 64

-- the sum of the first n numbers of f
abbrev pub sum_below : (ℕ → ℕ) → ℕ → ℕ
sum_below f zero = 0
sum_below f (suc n) = sum_below f n + f n
