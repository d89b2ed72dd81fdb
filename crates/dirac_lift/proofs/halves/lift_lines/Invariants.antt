use Rattle.std.proofs.Common.{◌+◌, ◌*◌}
use Rattle.dirac_lift.proofs.HalfLemmas.{HalfBelow}
use Rattle.dirac_lift.proofs.halves.lift_lines.Given as goal

abbrev pub invariant-loop-n : goal.invariant-loop-n
invariant-loop-n l =
    HalfBelow (record { parity = l.step.parity; minus = l.step.minus; shift = l.step.shift; lead = l.step.lead; taps = l.taps }) l.width l.half l.fn.own l.other l.own (l.n * l.width)

abbrev pub invariant-loop-x : goal.invariant-loop-x
invariant-loop-x l =
    HalfBelow (record { parity = l.step.parity; minus = l.step.minus; shift = l.step.shift; lead = l.step.lead; taps = l.taps }) l.width l.half l.fn.own l.other l.own (l.n * l.width + l.x)
