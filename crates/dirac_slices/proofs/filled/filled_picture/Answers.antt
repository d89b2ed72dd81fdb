use Rattle.std.proofs.Common.{length, ap, arith, ◌∙◌}
use Rattle.dirac_slices.specs.Basis.{basis_sequence}
use Rattle.dirac_slices.proofs.Between.{have_room, planes_written, same_picture}
use Rattle.dirac_slices.proofs.filled.filled_picture.Goals as goal

pub fill_parts-requires-clause-room : goal.fill_parts-requires-clause-room
fill_parts-requires-clause-room g c κs within =
    let r = c.args.room in
    let have = have_room (basis_sequence c.args.making.now.basis) c.args.workers r.y r.u r.v (omega (arith, c.requires.workers)) c.requires.room.y c.requires.room.u c.requires.room.v in
    record {
      y = ap length c.values_mut.ensures.value ∙ have.y;
      u = ap length c.values_mut-2.ensures.value ∙ have.u;
      v = ap length c.values_mut-3.ensures.value ∙ have.v;
    }

pub returns : goal.returns
returns g c =
    let r = c.args.room in
    let whole = planes_written c.args.making.now.basis c.args.workers r.y r.u r.v _ _ _ c.requires.basis (omega (arith, c.requires.workers)) c.requires.room.y c.requires.room.u c.requires.room.v c.in_ok-fill_parts.ensures in
    same_picture c.args.number _ _ _ _ _ _ whole.0 whole.1 whole.2
