-- How many bits spell numbers and vectors.
use Rattle.std.specs.Prelude.{ℕ, ℤ, ◌+◌, length}
use Rattle.dirac_common.specs.Numbers.{sint}
use Rattle.dirac_common.specs.declared.formats.Vector.{Vector}

-- how many bits spell a signed number
abbrev pub bits_to_spell : ℤ → ℕ
bits_to_spell v = length (sint v)

-- how many bits spell a vector's two components
abbrev pub bits_of_vector : Vector → ℕ
bits_of_vector v = bits_to_spell v.x + bits_to_spell v.y
