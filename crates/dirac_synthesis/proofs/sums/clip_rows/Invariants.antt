use Rattle.std.proofs.Common.{◌≡◌, ◌≤◌}
use Rattle.dirac_common.proofs.Rows.{RowsFilled}
use Rattle.dirac_common.specs.Samples.{clip}
use Rattle.dirac_common.specs.Table.{table_at}
use Rattle.dirac_synthesis.specs.Sums.{IsStripOf}
use Rattle.dirac_synthesis.proofs.sums.clip_rows.Given as goal

abbrev pub invariant-loop-y : goal.invariant-loop-y
invariant-loop-y g l = record {
  across : l.plane.width ≡ l.fn.plane.width;
  down : l.plane.height ≡ l.fn.plane.height;
  strip : IsStripOf (g.P.PredictsRows.predicted l.predictions) l.strip;
  begun : l.strip.first ≤ l.y;
  rows : RowsFilled (λ x y. clip (table_at (g.P.PredictsRows.predicted l.predictions) x y)) l.plane.width l.plane.height l.plane.values l.y;
}
