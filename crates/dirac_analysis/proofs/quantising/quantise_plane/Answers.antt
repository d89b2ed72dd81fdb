use Rattle.std.proofs.Common.{◌∷◌, ◌∙◌, List, ap, arith}
use Rattle.dirac_common.specs.Table.{Table}
use Rattle.dirac_parameters.specs.Counts.{counts_at}
use Rattle.dirac_analysis.specs.Analysis.{coded_from, lowest_index}
use Rattle.dirac_analysis.specs.Coded.{coded}
use Rattle.dirac_analysis.proofs.Analysing.{all_quantised, first_quantised, one_quantised}
use Rattle.dirac_analysis.proofs.quantising.quantise_plane.Goals as goal

pub bands-init : goal.bands-init
bands-init c =
    first_quantised c.args.kind c.args.transform.now.counts c.at-counts.result c.args.finer c.args.index c.lowest_index.result c.args.plane.now c.lowest.result.now c.higher-higher.result.now c.in_ok-lowest.lowest c.in_ok-bands.bands c.at-counts.ensures
    c.lowest_index.ensures.value c.lowest.ensures c.in_ok-lowest.ensures c.in_ok-bands.ensures

pub bands-preserved : goal.bands-preserved
bands-preserved c =
    one_quantised (coded (counts_at c.args.transform.now.counts 0) c.args.finer (lowest_index c.args.kind c.args.index) c.args.plane.now.lowest) c.in_ok-band.band c.args.transform.now.counts c.at-counts-in-bands.result _ c.args.finer c.args.index c.bands.n
    c.higher-higher.result.now c.index-higher-n.result c.bands.bands c.push.new.self c.at-counts-in-bands.ensures (omega arith) c.bands-test.true c.index-higher-n.is
    c.in_ok-band.ensures c.bands.invariant c.in_ok-push.ensures.pushed

pub returns : goal.returns
returns c =
    let first = coded (counts_at c.args.transform.now.counts 0) c.args.finer (lowest_index c.args.kind c.args.index) c.args.plane.now.lowest in
    all_quantised first c.args.transform.now.counts c.args.finer c.args.index c.bands.n c.higher-higher.result.now c.bands.bands c.bands-test.false c.bands.invariant
    ∙ ap (λ (ts : List Table). first ∷ coded_from c.args.transform.now.counts c.args.finer c.args.index 1 ts) c.higher-higher.ensures
