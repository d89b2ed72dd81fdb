use Rattle.std.proofs.Common.{rules}
use Rattle.dirac_lift.specs.Halves.{AreHalvesOfLine}
use Rattle.dirac_lift.specs.Wavelets.{run, steps_of, synth}
use Rattle.dirac_lift.proofs.HalfBounds.{run_alone, run_ends}
use Rattle.dirac_lift.proofs.Liftables.{halves_can, halves_ran}
use Rattle.dirac_lift.proofs.half_lines.synth_half_line.Goals as goal

pub synthesise-requires-clause-runs : goal.synthesise-requires-clause-runs
synthesise-requires-clause-runs c = halves_can _ _ c.requires.narrow

pub returns-clause-value : goal.returns-clause-value
unfolding synth
returns-clause-value c line a =
    let ran = halves_ran _ _ _ c.requires.narrow c.synthesise.ensures in
    let done : AreHalvesOfLine 0 c.synthesise.new.lines.evens.now c.synthesise.new.lines.odds.now (run (steps_of c.args.wavelet) line) = run_alone c.args.wavelet _ _ _ _ line ran.2 c.requires.alike a in
    search rules

pub returns-clause-low_bound : goal.returns-clause-low_bound
returns-clause-low_bound c =
    let ran = halves_ran _ _ _ c.requires.narrow c.synthesise.ensures in
    let ends = run_ends _ _ _ _ _ _ _ c.requires.narrow ran.2 in
    search rules

pub returns-clause-high_bound : goal.returns-clause-high_bound
returns-clause-high_bound c =
    let ran = halves_ran _ _ _ c.requires.narrow c.synthesise.ensures in
    let ends = run_ends _ _ _ _ _ _ _ c.requires.narrow ran.2 in
    search rules
