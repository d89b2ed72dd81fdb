-- What a source that reads ahead still has to give.
use Rattle.std.specs.Prelude.{ℕ, ◌+◌, ◌-◌, ◌^◌, ◌<◌, List, length, min}
use Rattle.std.proofs.Common.{lit<}
use Rattle.std.proofs.Math.Nat.{lt_of_le_of_lt, min-le_right}

-- the bytes held, and what is left of the source behind them, as a number below 2^63
abbrev pub left_of : List ℕ → ℕ → ℕ
left_of held left = min (length held + left) (2 ^ 63 - 1)

-- it is one
pub left_of_fits : (held : List ℕ) (left : ℕ) → left_of held left < 2 ^ 63
left_of_fits held left = lt_of_le_of_lt (min-le_right (length held + left) (2 ^ 63 - 1)) (lit< tt)
