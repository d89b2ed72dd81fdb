use Rattle.dirac_push.specs.Laid.{AreLaid}
use Rattle.dirac_push.proofs.rows.put_rows.Given as goal

abbrev pub invariant-loop-y : goal.invariant-loop-y
invariant-loop-y l = AreLaid l.plane l.y l.stride l.initial.out l.out
