use Rattle.dirac_decide.specs.Given.{deciding_of}
use Rattle.dirac_decide.specs.Splits.{DecidedTo}
use Rattle.dirac_decide.proofs.table.put_rows.Given as goal

abbrev pub invariant-loop-sy : goal.invariant-loop-sy
invariant-loop-sy l = DecidedTo (deciding_of l.inputs) 0 l.sy l.table
