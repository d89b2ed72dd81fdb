use Rattle.dirac_lift.proofs.ColumnLemmas.{ColumnsPart}
use Rattle.dirac_lift.proofs.columns.lift_columns_by.Given as goal

abbrev pub invariant-loop-n : goal.invariant-loop-n
invariant-loop-n l =
    ColumnsPart (record { parity = l.step.parity; minus = l.step.minus; shift = l.step.shift; lead = l.step.lead; taps = l.taps }) l.width l.height l.fn.values l.values l.n 0

abbrev pub invariant-loop-x : goal.invariant-loop-x
invariant-loop-x l =
    ColumnsPart (record { parity = l.step.parity; minus = l.step.minus; shift = l.step.shift; lead = l.step.lead; taps = l.taps }) l.width l.height l.fn.values l.values l.n l.x
