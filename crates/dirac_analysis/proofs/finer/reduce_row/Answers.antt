use Rattle.std.proofs.Common.{◌≡◌, ◌<◌, length, sym, subst, arith}
use Rattle.dirac_bands.specs.Geometry.{edge_of}
use Rattle.dirac_coeffs.proofs.Edges.{edge_last}
use Rattle.dirac_analysis.proofs.ReducedRows.{one_more}
use Rattle.dirac_analysis.proofs.finer.reduce_row.Goals as goal

pub loop-cx-preserved : goal.loop-cx-preserved
loop-cx-preserved c =
    one_more c.args.values.now c.loop-cx.line c.reduce_part.new.line c.args.indices.now (length c.args.values.now) c.args.first c.args.across c.loop-cx.cx c.edge-start.result c.edge-end.result c.at-index.result
    c.loop-cx-test.true c.edge-start.ensures.value c.edge-end.ensures.value c.at-index.ensures c.loop-cx.invariant c.reduce_part.ensures.written c.reduce_part.ensures.before

pub returns : goal.returns
returns c =
    let width = length c.args.values.now in
    let across = c.args.across in
    let last : across ≡ c.loop-cx.cx = omega arith in
    λ x l. c.loop-cx.invariant x (subst (λ n. x < edge_of width across n) last (subst (λ n. x < n) (sym (edge_last width across (omega arith))) l))
