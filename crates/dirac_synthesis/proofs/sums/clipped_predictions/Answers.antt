use Rattle.std.proofs.Common.{◌∙◌}
use Rattle.dirac_synthesis.proofs.SumRows.{clipped_alone}
use Rattle.dirac_synthesis.proofs.sums.clipped_predictions.Goals as goal

pub returns : goal.returns
returns g c =
    let size = c.requires.size in
    c.in_ok-clip_rows.ensures ∙ clipped_alone (g.P.PredictsRows.predicted c.args.predictions.now) c.args.extent.width c.args.extent.height size
