use Rattle.dirac_rows.specs.Answers.{AnswerRows}
use Rattle.dirac_decide.specs.Best.{IsBestRow}
use Rattle.dirac_decide.specs.Given.{deciding_of}
use Rattle.dirac_decide.proofs.table.rows_of.Given as goal

abbrev pub invariant-loop-sy : goal.invariant-loop-sy
invariant-loop-sy l = AnswerRows (λ r v. IsBestRow (deciding_of l.inputs) r v.items) l.sy l.rows.items
