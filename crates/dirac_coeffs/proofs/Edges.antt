-- The edges of codeblocks rise from 0 to the band's size.
use Rattle.std.proofs.Common.{◌≡◌, ℕ, ◌+◌, ◌*◌, ◌<◌, ◌≤◌, arith}
use Rattle.std.proofs.Math.Nat.{mul-div_cancel, zero-div, mul-zero}
use Rattle.std.proofs.lemmas.Nat.{mul-le}
use Rattle.dirac_bands.specs.Geometry.{edge_of}
use Rattle.dirac_bands.proofs.Sizes.{div_mono}
use Rattle.dirac_coeffs.specs.Layouts.{codeblock_extent}

pub edge_rises : (size count c d : ℕ) → 0 < count → c ≤ d → edge_of size count c ≤ edge_of size count d
edge_rises size count c d h l = div_mono (size * c) (size * d) count h (mul-le size c size d (omega arith) l)

pub edge_first : (size count : ℕ) → edge_of size count 0 ≡ 0
edge_first size count = rw mul-zero (zero-div count)

pub edge_last : (size count : ℕ) → 0 < count → edge_of size count count ≡ size
edge_last size count h = mul-div_cancel size h

pub edge_most : (size count c : ℕ) → 0 < count → c ≤ count → edge_of size count c ≤ size
edge_most size count c h l = omega (arith, edge_rises size count c count h l, edge_last size count h)

-- a codeblock ends where the next one begins
pub span_end : (size count c : ℕ) → 0 < count → edge_of size count c + codeblock_extent size count c ≡ edge_of size count (c + 1)
span_end size count c h = omega (arith, edge_rises size count c (c + 1) h (omega arith))

-- and lies inside the band
pub span_inside : (size count c : ℕ) → c < count → edge_of size count c + codeblock_extent size count c ≤ size
span_inside size count c h = omega (arith, span_end size count c (omega arith), edge_most size count (c + 1) (omega arith) (omega arith))

-- rows inside the band end inside its values
pub rows_inside : (end w h len : ℕ) → end ≤ h → len ≡ w * h → end * w ≤ len
rows_inside end w h len l e = omega (arith, mul-le end w h w l (omega arith))
