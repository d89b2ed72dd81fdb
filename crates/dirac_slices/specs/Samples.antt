-- The samples of a picture's planes, and rows of them.
use Rattle.std.specs.Prelude.{◌≡◌, ℕ, ℤ, ◌+◌, ◌-◌, ◌*◌, List, Some, IfSome, length}
use Rattle.dirac_common.specs.declared.formats.Component.{Component}
use Rattle.dirac_common.specs.declared.formats.Kind.TheVariants.{Intra as OfIntra}
use Rattle.dirac_common.specs.Table.{Table, filled, table_at, table_of}
use Rattle.dirac_sequence_header.specs.declared.sequence.Sequence.{Sequence}
use Rattle.dirac_sequence_header.specs.Lawful.{IsSequence}
use Rattle.dirac_picture.specs.Fits.{IsResidual}
use Rattle.dirac_content.specs.Content.{height_of, intra_samples, residual_among, width_of}
use Rattle.dirac_content.specs.Predicting.{inter_plane}
use Rattle.dirac_rows.specs.Answers.{AnswerRows}
use Rattle.dirac_slices.specs.declared.intra.Intra.{Intra}
use Rattle.dirac_slices.specs.Given.{Lent}
use Rattle.dirac_slices.specs.Places.{component_at}

-- an intra picture that can be rebuilt
pub record IsIntra (i : Intra) : Type 0 where
  pub sequence : IsSequence i.sequence.now
  pub residual : IfSome i.residual.now (IsResidual i.sequence.now)

-- the planes of an intra picture's samples
abbrev pub intra_planes : Intra → Component → Table
intra_planes i c = intra_samples i.sequence.now i.residual.now c

-- the residual of an intra picture's plane of this number
pub record IsResidualAt (i : Intra) (plane : ℕ) (t : Table) : Type 0 where
  pub is : t ≡ residual_among i.sequence.now OfIntra (component_at plane) i.residual.now

-- the residuals of an intra picture's planes Y, U, V
abbrev pub AreResiduals : Intra → List Table → Type 0
AreResiduals i items = AnswerRows (IsResidualAt i) 3 items

-- the planes of an inter picture's samples
abbrev pub inter_planes : Lent → Component → Table
inter_planes g c = inter_plane g.sequence (Some g.first) g.second g.motion g.residual c

-- rows from .. to of one of a picture's planes, as a table
abbrev pub samples_between : Sequence → (Component → Table) → Component → ℕ → ℕ → Table
samples_between s planes c from to = table_of (width_of s c) (to - from) (λ x y. table_at (planes c) x (from + y))

-- rows from .. to of one of a picture's planes, as a list
abbrev pub values_between : Sequence → (Component → Table) → Component → ℕ → ℕ → List ℤ
values_between s planes c from to = filled (width_of s c) (to - from) (λ x y. table_at (planes c) x (from + y))

-- a plane of a picture of this sequence
pub record FitsPlane (s : Sequence) (c : Component) (t : Table) : Type 0 where
  pub across : t.width ≡ width_of s c
  pub down : t.height ≡ height_of s c
  pub whole : length t.values ≡ width_of s c * height_of s c

-- all planes are as large as those of a picture of this sequence, and whole
abbrev pub FitPlanes : Sequence → (Component → Table) → Type 0
FitPlanes s planes = (c : Component) → FitsPlane s c (planes c)
