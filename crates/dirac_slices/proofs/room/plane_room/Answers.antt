use Rattle.dirac_slices.proofs.Between.{room_made}
use Rattle.dirac_slices.proofs.room.plane_room.Goals as goal

pub returns : goal.returns
returns c =
    room_made c.args.sequence.now c.args.component c.width_of-width.result c.height_of-height.result c.in_ok-plane.plane c.width_of-width.ensures.value c.height_of-height.ensures.value c.in_ok-plane.ensures
