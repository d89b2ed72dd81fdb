use Rattle.std.proofs.Common.{◌≡◌, ◌+◌, ◌/◌, ◌%◌, ◌<◌, ◌≤◌, ap, ◌∙◌, subst, arith}
use Rattle.dirac_bands.specs.Geometry.{edge_of}
use Rattle.dirac_analysis.proofs.Flatness.{rows_bounds, rows_least}
use Rattle.dirac_analysis.proofs.choosing.codeblock_peak.Goals as goal

pub loop-y-preserved : goal.loop-y-preserved
loop-y-preserved c =
    let t = c.args.table.now in
    let row = c.row_peak-largest.ensures in
    let inside : c.edge-right.result ≤ t.width = omega (arith, c.edge-right.ensures.inside, c.width-2.ensures.value) in
    record {
      below = row.below;
      bounds = rows_bounds t c.row.result.now c.edge-left.result c.edge-right.result c.edge-top.result c.loop-y.y c.loop-y.largest c.row_peak-largest.result c.row.ensures.value inside row.above c.loop-y.invariant.bounds row.bounds;
      least = λ limit all. row.least limit (c.loop-y.invariant.least limit all)
          (rows_least t c.row.result.now c.edge-left.result c.edge-right.result c.edge-top.result c.edge-bottom.result c.loop-y.y limit c.row.ensures.value inside c.loop-y.auto.y c.loop-y-test.true all);
    }

pub returns-clause-least : goal.returns-clause-least
returns-clause-least c =
    let counts = c.args.counts in
    let cx = c.args.c % counts.0 in
    let cy = c.args.c / counts.0 in
    let left : c.edge-left.result ≡ edge_of c.args.table.now.width counts.0 cx = c.edge-left.ensures.value ∙ ap (λ n. edge_of n counts.0 cx) c.width.ensures.value in
    let right : c.edge-right.result ≡ edge_of c.args.table.now.width counts.0 (cx + 1) = c.edge-right.ensures.value ∙ ap (λ n. edge_of n counts.0 (cx + 1)) c.width-2.ensures.value in
    let top : c.edge-top.result ≡ edge_of c.args.table.now.height counts.1 cy = c.edge-top.ensures.value ∙ ap (λ n. edge_of n counts.1 cy) c.height.ensures.value in
    let bottom : c.edge-bottom.result ≡ edge_of c.args.table.now.height counts.1 (cy + 1) = c.edge-bottom.ensures.value ∙ ap (λ n. edge_of n counts.1 (cy + 1)) c.height-2.ensures.value in
    λ limit all. c.loop-y.invariant.least limit (λ x k l r u d. all x k (subst (λ e. e ≤ x) left l) (subst (λ e. x < e) right r) (subst (λ e. e ≤ k) top u) (subst (λ e. k < e) bottom d))
