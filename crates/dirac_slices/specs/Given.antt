-- An inter picture whose references are looked up, seen through its references.
use Rattle.std.specs.Prelude.{◌≡◌, ℕ, ◌+◌, ◌-◌, Option, IsSome, IfSome}
use Rattle.std.specs.Option.{ForSome, option_copied}
use Rattle.dirac_common.specs.declared.formats.Component.{Component}
use Rattle.dirac_common.specs.declared.picture.Picture.{Picture}
use Rattle.dirac_common.specs.Table.{Table, table_of}
use Rattle.dirac_sequence_header.specs.declared.sequence.Sequence.{Sequence}
use Rattle.dirac_sequence_header.specs.Lawful.{IsSequence}
use Rattle.dirac_obmc.specs.Compensation.{Compensation, predicted_at}
use Rattle.dirac_obmc.specs.Directions.{columns_of}
use Rattle.dirac_picture.specs.declared.coded.CodedMotion.{CodedMotion}
use Rattle.dirac_picture.specs.declared.coded.CodedResidual.{CodedResidual}
use Rattle.dirac_picture.specs.Fits.{IsMotion, IsResidual}
use Rattle.dirac_content.specs.Content.{IsPicture, compensation, width_of}
use Rattle.dirac_slices.specs.declared.inter.Inter.{Inter}
use Rattle.dirac_slices.specs.declared.weights.PlaneWeights.{PlaneWeights}
use Rattle.dirac_slices.specs.Places.{component_at}

-- an inter picture: its parse code, its sequence, its prediction and residual, and the pictures that it refers to
pub record Lent : Type 0 where
  pub code : ℕ
  pub sequence : Sequence
  pub motion : CodedMotion
  pub residual : Option CodedResidual
  pub first : Picture
  pub second : Option Picture

-- an inter picture, seen through its references
abbrev pub lent_inter : Inter → Lent
lent_inter i = record {
  code = i.code;
  sequence = i.sequence.now;
  motion = i.motion.now;
  residual = i.residual.now;
  first = i.first.now;
  second = option_copied i.second;
}

-- an inter picture can be predicted from the pictures that it refers to
pub record IsInter (g : Lent) : Type 0 where
  pub sequence : IsSequence g.sequence
  pub motion : IsMotion g.code g.sequence g.motion
  pub residual : IfSome g.residual (IsResidual g.sequence)
  pub first : IsPicture g.sequence g.first
  pub second : ForSome g.second (IsPicture g.sequence)
  pub two : g.motion.blocks.refs ≡ 2 → IsSome g.second

-- what the plane of this number of an inter picture is predicted from
abbrev pub compensation_at : Lent → ℕ → Compensation
compensation_at g plane = compensation g.sequence g.motion g.first g.second (component_at plane)

-- the weights of the columns of an inter picture's planes Y and U; those of V are those of U
pub record AreWeights (g : Lent) (w : PlaneWeights) : Type 0 where
  pub luma : w.luma ≡ columns_of (compensation_at g 0)
  pub chroma : w.chroma ≡ columns_of (compensation_at g 1)

-- what is predicted for rows from .. to of a plane of an inter picture
abbrev pub predicted_between : Lent → Component → ℕ → ℕ → Table
predicted_between g c from to =
    table_of (width_of g.sequence c) (to - from)
    (λ x y. predicted_at (compensation g.sequence g.motion g.first g.second c) x (from + y))
