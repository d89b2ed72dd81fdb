use Rattle.std.proofs.Common.{◌≡◌, ◌<◌, length, arith, ap, sym, ◌∙◌, subst}
use Rattle.dirac_quant.specs.Quantiser.{factor_of, offset_of}
use Rattle.dirac_bands.specs.Geometry.{edge_of}
use Rattle.dirac_coeffs.proofs.Edges.{edge_last}
use Rattle.dirac_synthesis.proofs.ByCodeblock.{one_more_codeblock}
use Rattle.dirac_synthesis.proofs.codeblocks.restore_row.Goals as goal

pub loop-cx-preserved : goal.loop-cx-preserved
loop-cx-preserved c =
    one_more_codeblock c.args.kind c.args.coded.now c.loop-cx.line c.restore_part.new.line c.args.indices.now (length c.args.coded.now) c.args.first c.args.across c.loop-cx.cx c.edge-start.result c.edge-end.result
    c.scale_of-scale.result.factor c.scale_of-scale.result.offset c.loop-cx-test.true c.edge-start.ensures.value c.edge-end.ensures.value
    (c.scale_of-scale.ensures.factor ∙ ap factor_of c.at.ensures) (c.scale_of-scale.ensures.offset ∙ ap (λ i. offset_of i c.args.kind) c.at.ensures)
    c.loop-cx.invariant c.restore_part.ensures.written c.restore_part.ensures.before

pub returns : goal.returns
returns c x l =
    let width = length c.args.coded.now in
    let last : c.loop-cx.cx ≡ c.args.across = omega arith in
    c.loop-cx.invariant x (subst (λ n. x < edge_of width c.args.across n) (sym last) (omega (arith, l, edge_last width c.args.across (omega (arith, c.requires.across.0)))))
