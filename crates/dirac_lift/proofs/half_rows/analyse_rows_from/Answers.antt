use Rattle.std.proofs.Common.{◌+◌, ◌*◌, pos, get_or, arith, refl, ap, ◌∙◌}
use Rattle.dirac_common.proofs.Rows.{rows_more, rows_all}
use Rattle.dirac_lift.specs.HalfRows.{column_of}
use Rattle.dirac_lift.specs.Level.{first_doubled, row_in}
use Rattle.dirac_lift.specs.Wavelets.{analyse}
use Rattle.dirac_lift.proofs.HalfAnalysis.{row_from_halves}
use Rattle.dirac_lift.proofs.RowLemmas.{row_bound}
use Rattle.dirac_lift.proofs.half_rows.analyse_rows_from.Goals as goal

pub analyse_row-requires-clause-at_most_4095 : goal.analyse_row-requires-clause-at_most_4095
analyse_row-requires-clause-at_most_4095 c =
    rw c.row.ensures.value (row_bound 4095 c.args.plane.now.values c.args.plane.now.width (2 * c.loop-y.y + c.args.first) c.requires.at_most_4095)

pub loop-y-preserved : goal.loop-y-preserved
loop-y-preserved c =
    let plane = c.args.plane.now in
    let k = c.args.wavelet in
    record {
      across = c.loop-y.invariant.across;
      down = c.loop-y.invariant.down;
      rows =
          rows_more (λ x y. get_or (analyse k (first_doubled k (row_in plane.values plane.width (2 * y + c.args.first)))) (column_of plane.width x) (pos 0)) _ _ _ c.loop-y.y (c.loop-y.y + 1) _ c.loop-y.invariant.rows (omega arith) refl (omega arith)
          (λ x l.
          row_from_halves plane.width _ x c.analyse_row.new.row _ (omega arith) c.analyse_row.ensures
          ∙ ap (λ zs. get_or (analyse k (first_doubled k zs)) (column_of plane.width x) (pos 0)) c.row.ensures.value);
    }

pub returns : goal.returns
returns c =
    let plane = c.args.plane.now in
    let k = c.args.wavelet in
    rows_all (λ x y. get_or (analyse k (first_doubled k (row_in plane.values plane.width (2 * y + c.args.first)))) (column_of plane.width x) (pos 0)) c.loop-y.rows _ _ c.loop-y.y
    c.loop-y.invariant.across c.loop-y.invariant.down (omega arith) (omega arith) c.loop-y.invariant.rows
