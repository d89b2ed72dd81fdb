use Rattle.std.proofs.Common.{ℤ, List, ap, arith, ◌∙◌}
use Rattle.dirac_common.specs.Table.{Table}
use Rattle.dirac_synthesis.specs.Residual.{clipped, rows_between, with_prediction}
use Rattle.dirac_synthesis.proofs.Maps.{ok_weaker}
use Rattle.dirac_synthesis.proofs.SumRows.{all_rows}
use Rattle.dirac_synthesis.proofs.sums.summed_whole.Goals as goal

pub returns : goal.returns
returns g c =
    let r = c.args.residual.now in
    let t = g.P.PredictsRows.predicted c.args.predictions.now in
    ok_weaker c.clipped_sum.result
    (λ out e. e ∙ ap (λ (vs : List ℤ). clipped (with_prediction r vs))
    (c.values.ensures.value
    ∙ ap (λ (u : Table). u.values) (c.in_ok-predicted.ensures ∙ ap (λ n. rows_between 0 n t) c.height.ensures ∙ all_rows t r.width r.height c.requires.size (omega (arith, c.requires.across.0)))))
    c.clipped_sum.ensures
