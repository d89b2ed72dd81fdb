-- The planes of a picture by their numbers.
-- Inner: for the proofs of this crate.
use Rattle.std.specs.Prelude.{ℕ, zero, suc}
use Rattle.dirac_common.specs.declared.picture.Picture.{Picture}
use Rattle.dirac_common.specs.Table.{Table}
use Rattle.dirac_upconvert.specs.SubSamples.{Up}
use Rattle.dirac_refs.specs.Halves.{up_of}

-- Y, U, V
abbrev pub plane_of_number : Picture → ℕ → Table
plane_of_number p zero = p.y
plane_of_number p (suc zero) = p.u
plane_of_number p (suc (suc n)) = p.v

-- a plane with its half samples
abbrev pub up_of_number : Picture → ℕ → Up
up_of_number p plane = up_of (plane_of_number p plane)
