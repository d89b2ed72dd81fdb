use Rattle.std.proofs.Common.{length}
use Rattle.dirac_lift.proofs.HalfLemmas.{HalfBelow}
use Rattle.dirac_lift.proofs.halves.lift_line.Given as goal

abbrev pub invariant-left : goal.invariant-left
invariant-left l =
    HalfBelow (record { parity = l.step.parity; minus = l.step.minus; shift = l.step.shift; lead = l.step.lead; taps = l.taps }) 1 (length l.fn.own) l.fn.own l.other l.own l.n

abbrev pub invariant-inside : goal.invariant-inside
invariant-inside l =
    HalfBelow (record { parity = l.step.parity; minus = l.step.minus; shift = l.step.shift; lead = l.step.lead; taps = l.taps }) 1 (length l.fn.own) l.fn.own l.other l.own l.n

abbrev pub invariant-right : goal.invariant-right
invariant-right l =
    HalfBelow (record { parity = l.step.parity; minus = l.step.minus; shift = l.step.shift; lead = l.step.lead; taps = l.taps }) 1 (length l.fn.own) l.fn.own l.other l.own l.n
