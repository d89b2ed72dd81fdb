use Rattle.std.proofs.Common.{◌≡◌, ◌∷◌, take}
use Rattle.dirac_parameters.specs.Counts.{counts_at}
use Rattle.dirac_analysis.specs.Analysis.{coded_from, lowest_index}
use Rattle.dirac_analysis.specs.Coded.{coded}
use Rattle.dirac_analysis.proofs.quantising.quantise_plane.Given as goal

abbrev pub invariant-bands : goal.invariant-bands
invariant-bands l =
    l.bands ≡ coded (counts_at l.transform.counts 0) l.finer (lowest_index l.fn.kind l.index) l.plane.lowest ∷ coded_from l.transform.counts l.finer l.index 1 (take l.n l.higher)
