use Rattle.dirac_push.specs.Laid.{CopiesSamples}
use Rattle.dirac_push.proofs.rows.put_row.Given as goal

abbrev pub invariant-loop-k : goal.invariant-loop-k
invariant-loop-k l = CopiesSamples l.samples l.from l.start l.k l.initial.out l.out
