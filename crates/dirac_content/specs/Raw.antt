-- Raw pictures: the rows of Y, then of U, then of V, a byte a sample.
use Rattle.std.specs.Prelude.{ℕ, ℤ, pos, ◌+ℤ◌, unsigned_abs, List, ◌++◌, map}
use Rattle.std.specs.Int.{int_rem_euclid}
use Rattle.std.specs.List.{flat_map}
use Rattle.dirac_common.specs.declared.picture.Picture.{Picture}
use Rattle.dirac_common.specs.Table.{Table}

-- the byte of a sample: it is 128 more, modulo 256, and samples are from -128 to 127
abbrev pub byte_of : ℤ → ℕ
byte_of sample = unsigned_abs (int_rem_euclid (sample +ℤ pos 128) (pos 256))

-- a plane as bytes, by rows
abbrev pub plane_bytes : Table → List ℕ
plane_bytes t = map byte_of t.values

-- a raw picture: the rows of Y, then U, then V
abbrev pub raw : Picture → List ℕ
raw p = plane_bytes p.y ++ (plane_bytes p.u ++ plane_bytes p.v)

-- raw pictures, one after another
abbrev pub raws : List Picture → List ℕ
raws pictures = flat_map raw pictures
