-- A plane of a reference with its half samples, kept or made.
-- Inner: for the proofs of this crate.
use Rattle.dirac_upconvert.specs.SubSamples.{Up}
use Rattle.dirac_rebuild.specs.declared.compensate.Doubled.{Doubled}
use Rattle.dirac_rebuild.specs.declared.compensate.Doubled.TheVariants.{Kept, Made}

-- a plane with its half samples, kept or made
abbrev pub doubled_plane_in : Doubled → Up
doubled_plane_in (Kept up) = up.now
doubled_plane_in (Made up) = up
