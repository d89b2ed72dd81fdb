-- What two or three neighbouring values predict.
use Rattle.std.specs.Prelude.{ℤ, pos, negsuc, ◌+ℤ◌, ◌≤ℤ◌, Bool, ◌&&◌, ◌||◌}
use Rattle.std.specs.Int.{int_div_euclid, int_min, int_max}

-- a value of 16 bits
pub record IsShort (v : ℤ) : Type 0 where
  pub least : negsuc 32767 ≤ℤ v
  pub most : v ≤ℤ pos 32767

-- the mean of two values: of two that are equally near, the greater
abbrev pub mean_of_two : ℤ → ℤ → ℤ
mean_of_two a b = int_div_euclid ((a +ℤ b) +ℤ pos 1) (pos 2)

-- the middle one of three values
abbrev pub median : ℤ → ℤ → ℤ → ℤ
median a b c = int_max (int_min a b) (int_min (int_max a b) c)

-- what at least two of three bits are
abbrev pub majority : Bool → Bool → Bool → Bool
majority a b c = a && b || (a && c || b && c)
