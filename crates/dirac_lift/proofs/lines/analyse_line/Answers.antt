use Rattle.dirac_lift.specs.Wavelets.{analyse, steps_of, synth}
use Rattle.dirac_lift.proofs.Runs.{analyse_safe, analyse_grows, run_there, parities_of}
use Rattle.dirac_lift.proofs.lines.analyse_line.Goals as goal

pub run_analysis-requires-clause-safe : goal.run_analysis-requires-clause-safe
run_analysis-requires-clause-safe c = analyse_safe c.args.wavelet c.args.line.now c.requires.wavelet c.requires.even c.requires.magnitudes_at_most_2_108

pub returns-clause-value : goal.returns-clause-value
unfolding analyse
returns-clause-value c = c.run_analysis.ensures

pub returns-clause-growth : goal.returns-clause-growth
returns-clause-growth c b all = rw c.run_analysis.ensures (analyse_grows c.args.wavelet b c.args.line.now c.requires.wavelet c.requires.even all)

pub returns-clause-undone : goal.returns-clause-undone
unfolding synth
returns-clause-undone c = rw c.run_analysis.ensures (run_there (steps_of c.args.wavelet) c.args.line.now (parities_of c.args.wavelet c.requires.wavelet) c.requires.even)
