-- The half samples of a reference picture, which are kept beside it.
use Rattle.std.specs.Prelude.{◌≡◌, ◌≤◌, Result, IfOk}
use Rattle.std.specs.Borrow.{Bor}
use Rattle.std.specs.List.{All}
use Rattle.dirac_common.specs.declared.limits.TheConstants.{LARGEST_SIDE}
use Rattle.dirac_common.specs.declared.memory.NoMemory.{NoMemory}
use Rattle.dirac_common.specs.declared.picture.Picture.{Picture}
use Rattle.dirac_common.specs.Table.{Table}
use Rattle.dirac_upconvert.specs.HalfSamples.{IsSample, half}
use Rattle.dirac_upconvert.specs.SubSamples.{Up}
use Rattle.dirac_refs.specs.declared.reference.Halves.{Halves}

-- a plane with its half samples
abbrev pub up_of : Table → Up
up_of t = record { width = t.width; height = t.height; table = half t }

-- a plane whose half samples can be made
pub record IsDoublable (t : Table) : Type 0 where
  pub across : t.width ≤ LARGEST_SIDE
  pub down : t.height ≤ LARGEST_SIDE
  pub samples : All IsSample t.values

-- a picture whose planes are such
pub record CanBeDoubled (p : Picture) : Type 0 where
  pub y : IsDoublable p.y
  pub u : IsDoublable p.u
  pub v : IsDoublable p.v

-- the planes of this picture with their half samples
pub record AreHalves (p : Picture) (h : Halves) : Type 0 where
  pub y : h.y ≡ up_of p.y
  pub u : h.u ≡ up_of p.u
  pub v : h.v ≡ up_of p.v

-- a call that may be made on each picture that can be doubled, and makes its half samples
abbrev pub DoublesPictures : (Bor Picture → Type 0) → (Bor Picture → Result Halves NoMemory → Type 0) → Type 0
DoublesPictures pre post =
    ((picture : Bor Picture) → CanBeDoubled picture.now → pre picture)
    × ((picture : Bor Picture) (result : Result Halves NoMemory) → CanBeDoubled picture.now → post picture result
    → IfOk result (AreHalves picture.now))
