use Rattle.dirac_lift.proofs.Lifted.{LiftedBelow}
use Rattle.dirac_lift.proofs.step.lift_by.Given as goal

abbrev pub invariant-left : goal.invariant-left
invariant-left l = LiftedBelow (record { parity = l.step.parity; minus = l.step.minus; shift = l.step.shift; lead = l.step.lead; taps = l.taps }) l.fn.line l.line l.n

abbrev pub invariant-inside : goal.invariant-inside
invariant-inside l = LiftedBelow (record { parity = l.step.parity; minus = l.step.minus; shift = l.step.shift; lead = l.step.lead; taps = l.taps }) l.fn.line l.line l.n

abbrev pub invariant-right : goal.invariant-right
invariant-right l = LiftedBelow (record { parity = l.step.parity; minus = l.step.minus; shift = l.step.shift; lead = l.step.lead; taps = l.taps }) l.fn.line l.line l.n
