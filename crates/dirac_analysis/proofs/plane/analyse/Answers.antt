use Rattle.std.proofs.Common.{◌-◌, ap, ◌∙◌}
use Rattle.dirac_common.specs.Table.{Table}
use Rattle.dirac_synthesis.proofs.Maps.{ok_weaker}
use Rattle.dirac_analysis.specs.Analysis.{analysis_of}
use Rattle.dirac_analysis.proofs.Fitting.{padded_small}
use Rattle.dirac_analysis.proofs.OneLevel.{padded_divisible}
use Rattle.dirac_analysis.proofs.plane.analyse.Goals as goal

pub analyse_levels-requires-clause-divisible : goal.analyse_levels-requires-clause-divisible
analyse_levels-requires-clause-divisible c = rw c.in_ok-table.ensures (padded_divisible c.args.transform.now.depth c.args.plane.now)

pub analyse_levels-requires-clause-magnitudes_bounded : goal.analyse_levels-requires-clause-magnitudes_bounded
analyse_levels-requires-clause-magnitudes_bounded c =
    let depth = c.args.transform.now.depth in
    rw c.in_ok-table.ensures (padded_small (4 - depth) depth c.args.plane.now c.requires.magnitudes_bounded)

pub returns-clause-value : goal.returns-clause-value
returns-clause-value c =
    let t = c.args.transform.now in
    ok_weaker c.analyse_levels.result (λ x is. is ∙ ap (λ (p : Table). analysis_of c.args.kind t.wavelet p t.depth) c.in_ok-table.ensures) c.analyse_levels.ensures.value
