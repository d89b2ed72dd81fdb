use Rattle.std.proofs.Common.{List, subst, sym}
use Rattle.dirac_common.specs.Table.{Table}
use Rattle.dirac_slices.specs.Places.{component_at}
use Rattle.dirac_slices.specs.Samples.{AreResiduals, intra_planes}
use Rattle.dirac_slices.proofs.intra.intra_picture.Goals as goal

pub returns-then-is_small : goal.returns-then-is_small
returns-then-is_small g c = c.assembled.ensures (λ r. intra_planes c.args.intra.now (component_at r)) c.in_ok-planes.ensures

pub filled_picture-requires-clause-basis : goal.filled_picture-requires-clause-basis
filled_picture-requires-clause-basis g c κs within = (
  c.requires.intra,
  subst (λ (l : List Table). AreResiduals c.args.intra.now l) (sym c.as_slice.ensures.value) c.in_ok-residuals.ensures,
)

pub filled_picture-requires-clause-room : goal.filled_picture-requires-clause-room
filled_picture-requires-clause-room g c κs within = c.in_ok-room.ensures

pub returns : goal.returns
returns g c = c.filled_picture.ensures
