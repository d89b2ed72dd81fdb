use Rattle.std.proofs.Common.{ℕ, ◌<◌, ◌≤◌}
use Rattle.dirac_encode_laws.specs.Fit.{length_at}
use Rattle.dirac_encode.specs.Asked.{asked_job}
use Rattle.dirac_encode.proofs.fitting.fit_by.Given as goal

abbrev pub invariant-indices : goal.invariant-indices
invariant-indices l = (i : ℕ) → l.asked.settings.now.index ≤ i → i < l.index → l.budget < length_at l.asked.settings.now l.asked.refs.now (asked_job l.asked) i
