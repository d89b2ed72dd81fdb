-- Sources over readers and sinks over writers, as their contracts see them.
use Rattle.std.specs.Prelude.{ℕ, ◌-◌, ◌^◌, ◌<◌}
use Rattle.std.proofs.Common.{lit<}
use Rattle.std.proofs.Math.Nat.{lt_of_le_of_lt, sub-le}

-- a reader, how many bytes it gave and how often it failed
pub record Reads (R : Type 0) : Type 0 where
  pub reader : R
  pub given : ℕ
  pub faults : ℕ

-- a writer, and how often it failed
pub record Writes (W : Type 0) : Type 0 where
  pub writer : W
  pub faults : ℕ

-- what may still be given after that many bytes, as a number below 2^63
abbrev pub left_after : ℕ → ℕ
left_after given = 2 ^ 63 - 1 - given

-- it is one
pub left_after_fits : (given : ℕ) → left_after given < 2 ^ 63
left_after_fits given = lt_of_le_of_lt (sub-le (2 ^ 63 - 1) given) (lit< tt)
