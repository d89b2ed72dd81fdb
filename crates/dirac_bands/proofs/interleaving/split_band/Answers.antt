use Rattle.std.proofs.Common.{◌+◌, arith, refl}
use Rattle.dirac_bands.proofs.Interleaves.{band_row}
use Rattle.dirac_common.proofs.Rows.{rows_more, rows_all}
use Rattle.dirac_bands.proofs.interleaving.split_band.Goals as goal

pub loop-y-preserved : goal.loop-y-preserved
loop-y-preserved c = record {
  across = c.loop-y.invariant.across;
  down = c.loop-y.invariant.down;
  rows =
      rows_more _ _ _ _ c.loop-y.y (c.loop-y.y + 1) _ c.loop-y.invariant.rows (omega arith) refl (omega arith)
      (λ x l. band_row c.args.plane.now c.args.right c.args.below c.loop-y.y x _ _ c.take_every_other.ensures c.row.ensures.value c.row.ensures.len c.requires.right (omega arith));
}

pub returns : goal.returns
returns c = rows_all _ c.loop-y.band _ _ c.loop-y.y c.loop-y.invariant.across c.loop-y.invariant.down (omega arith) (omega arith) c.loop-y.invariant.rows
