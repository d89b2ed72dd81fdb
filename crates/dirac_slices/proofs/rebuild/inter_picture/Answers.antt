use Rattle.std.proofs.Common.{List, subst, sym}
use Rattle.dirac_slices.specs.declared.prepared.Prepared.{Prepared}
use Rattle.dirac_slices.specs.Given.{lent_inter}
use Rattle.dirac_slices.specs.Prepared.{ArePrepared}
use Rattle.dirac_slices.proofs.rebuild.inter_picture.Goals as goal

pub prepare_rows-requires-clause-inter : goal.prepare_rows-requires-clause-inter
prepare_rows-requires-clause-inter g c κs within = c.requires.inter

pub prepare_rows-requires-clause-workers : goal.prepare_rows-requires-clause-workers
prepare_rows-requires-clause-workers g c κs within = c.requires.workers

pub plane_weights-requires-clause-inter : goal.plane_weights-requires-clause-inter
plane_weights-requires-clause-inter g c = c.requires.inter

pub plane_weights-requires-clause-prepared : goal.plane_weights-requires-clause-prepared
plane_weights-requires-clause-prepared g c =
    subst (λ (l : List Prepared). ArePrepared (lent_inter c.args.inter.now) l) (sym c.as_slice.ensures.value) c.in_ok-prepared.ensures

pub filled_picture-requires-clause-basis : goal.filled_picture-requires-clause-basis
filled_picture-requires-clause-basis g c κs within = (
  c.requires.inter,
  subst (λ (l : List Prepared). ArePrepared (lent_inter c.args.inter.now) l) (sym c.as_slice-2.ensures.value) c.in_ok-prepared.ensures,
  c.in_ok-weights.ensures,
)

pub filled_picture-requires-clause-room : goal.filled_picture-requires-clause-room
filled_picture-requires-clause-room g c κs within = c.in_ok-room.ensures

pub filled_picture-requires-clause-workers : goal.filled_picture-requires-clause-workers
filled_picture-requires-clause-workers g c κs within = c.requires.workers

pub picture_room-requires : goal.picture_room-requires
picture_room-requires g c = c.requires.inter.sequence

pub returns : goal.returns
returns g c = c.filled_picture.ensures
