-- The half samples of a plane: between its rows first, then between the columns of that result.
use Rattle.std.specs.Prelude.{ℕ, ℤ, pos, negsuc, ◌+◌, ◌-◌, ◌*◌, ◌/◌, ◌%◌, ◌==◌, ◌+ℤ◌, ◌-ℤ◌, ◌*ℤ◌, ◌≤ℤ◌, min}
use Rattle.std.specs.Prelude.{if◌then◌else◌}
use Rattle.std.specs.Int.{int_shr}
use Rattle.dirac_common.specs.Table.{Table, table_at, table_of}
use Rattle.dirac_common.specs.Samples.{clip}

-- a sample of eight bits, signed
pub record IsSample (v : ℤ) : Type 0 where
  pub least : negsuc 127 ≤ℤ v
  pub most : v ≤ℤ pos 127

-- the weighted sum of four pairs, from the inner to the outer
abbrev pub weighted_pairs : ℤ → ℤ → ℤ → ℤ → ℤ
weighted_pairs first second third fourth = (pos 21 *ℤ first -ℤ pos 7 *ℤ second) +ℤ (pos 3 *ℤ third -ℤ fourth)

-- the half sample between a0 and b0; the others lie further out
unfoldable pub half_between : ℤ → ℤ → ℤ → ℤ → ℤ → ℤ → ℤ → ℤ → ℤ
half_between a3 a2 a1 a0 b0 b1 b2 b3 =
    clip (int_shr (weighted_pairs (a0 +ℤ b0) (a1 +ℤ b1) (a2 +ℤ b2) (a3 +ℤ b3) +ℤ pos 16) 5)

-- the half sample behind place i of a line whose places are 0 to last; places are clamped to the line
abbrev pub half_behind : (ℕ → ℤ) → ℕ → ℕ → ℤ
half_behind line last i =
    half_between (line (i - 3)) (line (i - 2)) (line (i - 1)) (line i)
    (line (min (i + 1) last)) (line (min (i + 2) last)) (line (min (i + 3) last)) (line (min (i + 4) last))

-- place p of a line with its half samples between: samples stand at even places
abbrev pub doubled_at : (ℕ → ℤ) → ℕ → ℕ → ℤ
doubled_at line last p = if p % 2 == 0 then line (p / 2) else half_behind line last (p / 2)

-- column x of row y of a plane with the half samples between its rows
abbrev pub row_doubled_at : Table → ℕ → ℕ → ℤ
row_doubled_at t x y = doubled_at (λ j. table_at t x j) (t.height - 1) y

-- column x of row y of a plane with its half samples: those between its rows, and those between the columns of that
abbrev pub half_at : Table → ℕ → ℕ → ℤ
half_at t x y = doubled_at (λ i. row_doubled_at t i y) (t.width - 1) x

-- a plane with all its half samples
abbrev pub half : Table → Table
half t = table_of (2 * t.width - 1) (2 * t.height - 1) (half_at t)
