use Rattle.std.proofs.Common.{◌*◌}
use Rattle.dirac_obmc.specs.Adding.{AddsPart, weighed_at}
use Rattle.dirac_obmc.proofs.sums.add_values.Given as goal

abbrev pub invariant-loop-c : goal.invariant-loop-c
invariant-loop-c l = AddsPart l.start (weighed_at l.weighed) (8 * l.c) l.initial.sums l.sums
