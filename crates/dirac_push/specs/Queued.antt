-- The bytes that wait to be decoded.
use Rattle.std.specs.Prelude.{ℕ, ◌-◌, ◌^◌, ◌<◌, List, length, min}
use Rattle.std.proofs.Common.{lit<}
use Rattle.std.proofs.Math.Nat.{lt_of_le_of_lt, min-le_right}

-- how many bytes wait, as a number below 2^63
abbrev pub count_waiting : List ℕ → ℕ
count_waiting bytes = min (length bytes) (2 ^ 63 - 1)

-- it is one
pub count_fits : (bytes : List ℕ) → count_waiting bytes < 2 ^ 63
count_fits bytes = lt_of_le_of_lt (min-le_right (length bytes) (2 ^ 63 - 1)) (lit< tt)

-- no read fails
pub none_fits : 0 < 2 ^ 64
none_fits = lit< tt
