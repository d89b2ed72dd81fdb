use Rattle.std.proofs.Common.{◌+◌, ◌-◌, ◌<◌, min, pos, get_or, arith, refl, ap, subst, ◌≡◌, ◌≤◌, ◌∙◌}
use Rattle.dirac_bands.specs.Geometry.{padded_size}
use Rattle.dirac_common.specs.Table.{table_at}
use Rattle.dirac_common.proofs.Rows.{rows_more, rows_all, row_at}
use Rattle.dirac_analysis.proofs.Fitting.{min_below}
use Rattle.dirac_analysis.proofs.padding.pad.Goals as goal

pub loop-y-preserved : goal.loop-y-preserved
loop-y-preserved c = record {
  across = c.loop-y.invariant.across;
  down = c.loop-y.invariant.down;
  rows =
      let plane = c.args.plane.now in
      rows_more _ _ _ _ c.loop-y.y (c.loop-y.y + 1) _ c.loop-y.invariant.rows (omega arith) refl (omega arith)
      (λ x l.
      c.pad_row.ensures x (omega (arith, l))
      ∙ ap (λ n. get_or c.row.result.now (min x (n - 1)) (pos 0)) c.row.ensures.len
      ∙ ap (λ zs. get_or zs (min x (plane.width - 1)) (pos 0)) c.row.ensures.value
      ∙ row_at plane (min x (plane.width - 1)) c.min.result (min_below x plane.width (omega arith))
      ∙ ap (λ y. table_at plane (min x (plane.width - 1)) y) (c.min.ensures ∙ ap (λ h. min c.loop-y.y (h - 1)) c.height-last.ensures.value));
}

pub returns : goal.returns
returns c =
    let plane = c.args.plane.now in
    let depth = c.args.depth in
    let across : c.padded-width.result ≡ padded_size plane.width depth = c.padded-width.ensures.value ∙ ap (λ n. padded_size n depth) c.width.ensures.value in
    let down : c.padded-height.result ≡ padded_size plane.height depth = c.padded-height.ensures.value ∙ ap (λ n. padded_size n depth) c.height.ensures.value in
    let some : 0 < c.padded-width.result = omega (arith, c.padded-width.ensures.at_least, c.width.ensures.at_least_1) in
    rows_all (λ x y. table_at plane (min x (plane.width - 1)) (min y (plane.height - 1))) c.loop-y.table (padded_size plane.width depth) (padded_size plane.height depth) c.loop-y.y
    (c.loop-y.invariant.across ∙ across) (c.loop-y.invariant.down ∙ down) (subst (λ n. 0 < n) across some) (subst (λ n. n ≤ c.loop-y.y) down c.loop-y-test.false) c.loop-y.invariant.rows
