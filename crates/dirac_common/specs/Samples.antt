-- What is made of samples and values beside each other.
use Rattle.std.specs.Prelude.{ℤ, pos, negsuc, ◌+ℤ◌}
use Rattle.std.specs.Int.{int_div_euclid, int_max, int_min}

-- a value clipped to the range of samples
abbrev pub clip : ℤ → ℤ
clip v = int_max (negsuc 127) (int_min v (pos 127))

-- the mean of three values, rounded to the nearest
abbrev pub mean_of_three : ℤ → ℤ → ℤ → ℤ
mean_of_three a b c = int_div_euclid (((a +ℤ b) +ℤ c) +ℤ pos 1) (pos 3)
