-- Counts of faults.
use Rattle.std.specs.Prelude.{ℕ, ◌+◌, ◌-◌, ◌^◌, ◌≤◌, ◌<◌, min}
use Rattle.std.proofs.Common.{lit<}
use Rattle.std.proofs.Math.Nat.{lt_of_le_of_lt, min-le_right}

-- a count rose; one that stands at its last value counts as risen
abbrev pub Rose : ℕ → ℕ → Type 0
Rose before now = min (before + 1) (2 ^ 64 - 1) ≤ now

-- a count after one more fault
abbrev pub one_more : ℕ → ℕ
one_more count = min (count + 1) (2 ^ 64 - 1)

-- a count as its type holds it
abbrev pub held_count : ℕ → ℕ
held_count count = min count (2 ^ 64 - 1)

-- it fits
pub clipped_fits : (count : ℕ) → held_count count < 2 ^ 64
clipped_fits count = lt_of_le_of_lt (min-le_right count (2 ^ 64 - 1)) (lit< tt)
