use Rattle.std.proofs.Common.{◌≡◌, drop}
use Rattle.dirac_edit.specs.Open.{first_open_among}
use Rattle.dirac_edit.proofs.open.first_open.Given as goal

abbrev pub invariant-loop-sequence : goal.invariant-loop-sequence
invariant-loop-sequence l = first_open_among l.sequences ≡ first_open_among (drop l.sequence-index l.sequences)
