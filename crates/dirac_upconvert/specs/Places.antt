-- The places of a plane that a block holds, and the positions to which vectors lead from them.
use Rattle.std.specs.Prelude.{ℕ, ℤ, pos, ◌+◌, ◌-◌, ◌*◌, ◌/◌, ◌^◌, ◌+ℤ◌, nat_le, nat_lt, Bool, ◌&&◌}
use Rattle.std.specs.Int.{int_div_euclid}

-- how far a block reaches beyond its own part, on either side
abbrev pub block_margin : ℕ → ℕ → ℕ
block_margin length separation = (length - separation) / 2

-- whether a block holds place x of its plane: it starts the margin before its own part
abbrev pub holds : ℕ → ℕ → ℕ → ℕ → Bool
holds block length separation x =
    nat_le (block * separation) (x + block_margin length separation)
    && nat_lt (x + block_margin length separation) (block * separation + length)

-- the position, in 2 ^ precision parts of a sample, to which a vector's part in this direction leads from a place of a
-- plane whose samples stand for `ratio` luma samples each
abbrev pub position : ℕ → ℕ → ℕ → ℤ → ℤ
position precision ratio place part = pos (2 ^ precision * place) +ℤ int_div_euclid part (pos ratio)
