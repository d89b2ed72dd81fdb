use Rattle.std.proofs.Common.{arith, refl}
use Rattle.dirac_lift.proofs.ColumnLemmas.{part_more, part_end, still_read, still_changed}
use Rattle.dirac_lift.proofs.columns.lift_columns_by.Goals as goal

pub lift_column_place-requires-clause-read : goal.lift_column_place-requires-clause-read
lift_column_place-requires-clause-read c =
    still_read _ _ _ _ _ c.loop-n.n c.loop-x.x c.loop-x.invariant c.requires.parity (omega arith) c.requires.magnitudes_bounded

pub lift_column_place-requires-clause-changed : goal.lift_column_place-requires-clause-changed
lift_column_place-requires-clause-changed c =
    still_changed _ _ _ _ _ c.loop-n.n c.loop-x.x c.loop-x.invariant c.requires.parity (omega arith) c.requires.magnitudes_bounded

pub loop-x-preserved : goal.loop-x-preserved
loop-x-preserved c =
    rw c.lift_column_place.ensures
    (part_more _ _ _ _ _ c.loop-n.n c.loop-x.x _ c.loop-x.invariant c.requires.parity c.requires.len (omega arith) (omega arith) refl)

pub returns : goal.returns
returns c = part_end _ _ _ _ _ c.loop-n.n c.loop-n.invariant (omega arith) c.requires.parity c.requires.even
