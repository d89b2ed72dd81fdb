use Rattle.std.proofs.Common.{◌+◌}
use Rattle.dirac_obmc.specs.Adding.{AddsPart, weighed_at}
use Rattle.dirac_obmc.proofs.sums.add_singly.Given as goal

abbrev pub invariant-loop-k : goal.invariant-loop-k
invariant-loop-k l = AddsPart l.place (λ k. weighed_at l.weighed (l.at + k)) l.k l.initial.sums l.sums
