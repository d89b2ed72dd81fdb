use Rattle.dirac_lift.specs.Wavelets.{analyse, steps_of, synth}
use Rattle.dirac_lift.proofs.Runs.{synth_safe, synth_grows, run_back, parities_of}
use Rattle.dirac_lift.proofs.lines.synth_line.Goals as goal

pub run_synthesis-requires-clause-safe : goal.run_synthesis-requires-clause-safe
run_synthesis-requires-clause-safe c = synth_safe c.args.wavelet c.args.line.now c.requires.wavelet c.requires.even c.requires.magnitudes_at_most_2_108

pub returns-clause-value : goal.returns-clause-value
unfolding synth
returns-clause-value c = c.run_synthesis.ensures

pub returns-clause-growth : goal.returns-clause-growth
returns-clause-growth c b all = rw c.run_synthesis.ensures (synth_grows c.args.wavelet b c.args.line.now c.requires.wavelet c.requires.even all)

pub returns-clause-undone : goal.returns-clause-undone
unfolding analyse
returns-clause-undone c = rw c.run_synthesis.ensures (run_back (steps_of c.args.wavelet) c.args.line.now (parities_of c.args.wavelet c.requires.wavelet) c.requires.even)
