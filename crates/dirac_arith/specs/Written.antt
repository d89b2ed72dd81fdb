-- The block that an encoder writes for a list of decisions.
use Rattle.std.specs.Prelude.{ℕ, zero, suc, ◌+◌, ◌-◌, ◌*◌, ◌/◌, ◌%◌, ◌^◌, List, [], ◌∷◌}
use Rattle.dirac_arith.specs.Interval.{Decision, Interval, interval_of}

-- that many bytes that hold a number, the most significant first
unfoldable pub number_in_bytes : ℕ → ℕ → List ℕ
number_in_bytes zero n = []
number_in_bytes (suc m) n = n / 2 ^ (8 * m) % 256 ∷ number_in_bytes m n

-- the length of the block in bytes: that of k + 2 bits after k doublings
abbrev pub block_length : ℕ → ℕ
block_length doublings = (doublings + 9) / 8

-- the bytes whose front, followed by ones, is the last that lies in the interval
unfoldable pub flushed_interval : Interval → List ℕ
flushed_interval s =
    let m = block_length s.doublings in
    number_in_bytes m ((s.low + s.range) / 2 ^ (16 + s.doublings - 8 * m) - 1)

-- the block for a list of decisions: none is an empty block
abbrev pub flush : List Decision → List ℕ
flush [] = []
flush (d ∷ ds) = flushed_interval (interval_of (d ∷ ds))
