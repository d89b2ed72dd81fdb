use Rattle.std.proofs.Common.{length}
use Rattle.dirac_synthesis.proofs.Maps.{ok_weaker}
use Rattle.dirac_slices.specs.Basis.{planes_of, basis_sequence}
use Rattle.dirac_slices.specs.Places.{component_at}
use Rattle.dirac_slices.proofs.Between.{part_of_rows, rows_of_room}
use Rattle.dirac_slices.proofs.filled.fill_part.Goals as goal

pub fill_rows-requires-clause-room : goal.fill_rows-requires-clause-room
fill_rows-requires-clause-room c =
    rows_of_room (basis_sequence c.args.making.now.basis) c.args.parts (component_at c.args.plane) c.rows_of-from.result.0 c.rows_of-from.result.1 (length c.args.room.now)
    c.rows_of-from.ensures.from c.rows_of-from.ensures.to c.requires.room

pub returns : goal.returns
returns c =
    let b = c.args.making.now.basis in
    ok_weaker c.fill_rows.result (λ u e.
    part_of_rows (basis_sequence b) (planes_of b) c.args.parts (component_at c.args.plane) c.rows_of-from.result.0 c.rows_of-from.result.1 c.fill_rows.new.room
    c.rows_of-from.ensures.from c.rows_of-from.ensures.to e) c.fill_rows.ensures
