use Rattle.std.proofs.Common.{◌≡◌, ◌+◌, ◌*◌, arith, refl, ap, ◌∙◌}
use Rattle.dirac_bands.specs.Interleaving.{joined, band_of}
use Rattle.dirac_bands.proofs.Interleaves.{even_row, odd_row}
use Rattle.dirac_bands.proofs.Undoing.{ll_again, hl_again, lh_again, hh_again}
use Rattle.dirac_common.proofs.Rows.{rows_more, rows_all}
use Rattle.dirac_bands.proofs.interleaving.join_bands.Goals as goal

pub loop-y-preserved : goal.loop-y-preserved
loop-y-preserved c = record {
  across = c.loop-y.invariant.across;
  down = c.loop-y.invariant.down;
  rows =
      rows_more _ _ _ _ (2 * c.loop-y.y + 1) (2 * (c.loop-y.y + 1)) _
      (rows_more _ _ _ _ (2 * c.loop-y.y) (2 * c.loop-y.y + 1) _ c.loop-y.invariant.rows (omega arith) refl (omega arith)
      (λ x l. even_row c.args.ll.now c.args.hl.now c.args.lh.now c.args.hh.now c.loop-y.y x _ _ _ c.interleave.ensures c.row.ensures.value c.row-in-loop-y.ensures.value c.row.ensures.len (omega arith) (omega arith)))
      (omega arith) (omega arith) (omega arith)
      (λ x l. odd_row c.args.ll.now c.args.hl.now c.args.lh.now c.args.hh.now c.loop-y.y x _ _ _ c.interleave-in-loop-y.ensures c.row-in-loop-y-2.ensures.value c.row-in-loop-y-3.ensures.value c.row-in-loop-y-2.ensures.len (omega arith) (omega arith));
}

pub returns : goal.returns
returns c =
    let plane : c.loop-y.plane ≡ joined c.args.ll.now c.args.hl.now c.args.lh.now c.args.hh.now =
    rows_all _ c.loop-y.plane _ _ (2 * c.loop-y.y) c.loop-y.invariant.across c.loop-y.invariant.down (omega arith) (omega arith) c.loop-y.invariant.rows in
    record {
      plane = plane;
      ll = ap (λ t. band_of t 0 0) plane ∙ ll_again _ _ _ _ (record { some = omega arith; across = refl; down = refl; len = c.width-width.ensures.whole });
      hl = ap (λ t. band_of t 1 0) plane ∙ hl_again _ _ _ _ (record { some = omega arith; across = omega arith; down = omega arith; len = c.width.ensures.whole });
      lh = ap (λ t. band_of t 0 1) plane ∙ lh_again _ _ _ _ (record { some = omega arith; across = omega arith; down = omega arith; len = c.width-2.ensures.whole });
      hh = ap (λ t. band_of t 1 1) plane ∙ hh_again _ _ _ _ (record { some = omega arith; across = omega arith; down = omega arith; len = c.width-3.ensures.whole });
    }
