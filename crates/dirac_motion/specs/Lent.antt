-- The references of an inter picture, with their luma upconverted.
use Rattle.std.specs.Prelude.{◌≡◌, ◌≤◌, List, Option, Some, option_map}
use Rattle.std.specs.List.{All}
use Rattle.std.specs.Option.{ForSome}
use Rattle.dirac_common.specs.declared.limits.TheConstants.{LARGEST_SIDE}
use Rattle.dirac_common.specs.declared.picture.Picture.{Picture}
use Rattle.dirac_sequence_header.specs.declared.sequence.Sequence.{Sequence}
use Rattle.dirac_upconvert.specs.HalfSamples.{IsSample}
use Rattle.dirac_upconvert.specs.SubSamples.{Up}
use Rattle.dirac_content.specs.Content.{IsPicture, named, up_of}
use Rattle.dirac_plan.specs.declared.planned.Planned.{Planned}
use Rattle.dirac_motion.specs.declared.lent.Luma.{Luma}
use Rattle.dirac_motion.specs.declared.lent.Luma.TheVariants.{Kept, Made}
use Rattle.dirac_motion.specs.declared.lent.Lumas.{Lumas}
use Rattle.dirac_motion.specs.declared.lent.Reference.{Reference}
use Rattle.dirac_motion.specs.declared.lent.References.{References}

-- a picture whose luma can be upconverted
pub record HasLuma (p : Picture) : Type 0 where
  pub across : p.y.width ≤ LARGEST_SIDE
  pub down : p.y.height ≤ LARGEST_SIDE
  pub samples : All IsSample p.y.values

-- the luma of a picture with half samples, kept or made
abbrev pub luma_in : Luma → Up
luma_in (Kept up) = up.now
luma_in (Made up) = up

-- the luma of these pictures with half samples
pub record AreLumas (one : Picture) (other : Option Picture) (l : Lumas) : Type 0 where
  pub first : luma_in l.first ≡ up_of one.y
  pub second : option_map luma_in l.second ≡ option_map (λ (p : Picture). up_of p.y) other

-- a picture of this sequence, and its luma with half samples
pub record IsReference (s : Sequence) (r : Reference) : Type 0 where
  pub picture : IsPicture s r.picture.now
  pub luma : r.luma.now ≡ up_of r.picture.now.y

-- one picture of this sequence or two, each with its luma's half samples
pub record AreLent (s : Sequence) (r : References) : Type 0 where
  pub first : IsReference s r.first
  pub second : ForSome r.second (IsReference s)

-- the first picture of lent references
abbrev pub first_of : References → Picture
first_of r = r.first.picture.now

-- the second picture of lent references, where there is one
abbrev pub second_of : References → Option Picture
second_of r = option_map (λ (x : Reference). x.picture.now) r.second

-- lent references are the listed pictures that a planned picture refers to
pub record AreNamed (refs : List Picture) (q : Planned) (r : References) : Type 0 where
  pub first : named refs q.ref1 ≡ Some (first_of r)
  pub second : named refs q.ref2 ≡ second_of r
