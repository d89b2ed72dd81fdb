use Rattle.dirac_decide.specs.Given.{deciding_of}
use Rattle.dirac_decide.specs.Splits.{DecidedTo}
use Rattle.dirac_decide.proofs.table.put_row.Given as goal

abbrev pub invariant-loop-sx : goal.invariant-loop-sx
invariant-loop-sx l = DecidedTo (deciding_of l.inputs) l.sx l.sy l.table
