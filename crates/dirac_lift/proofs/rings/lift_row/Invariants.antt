use Rattle.std.proofs.Common.{◌*◌, ◌%◌, ◌≤◌}
use Rattle.dirac_lift.specs.Lanes.{RunPut}
use Rattle.dirac_lift.specs.Rings.{ring_value}
use Rattle.dirac_lift.proofs.rings.lift_row.Given as goal

abbrev pub invariant-loop-x : goal.invariant-loop-x
invariant-loop-x l = record {
  run : RunPut ((l.n % 16) * l.size.width) l.x (ring_value (record { parity = l.step.parity; minus = l.step.minus; shift = l.step.shift; lead = l.step.lead; taps = l.taps }) l.size.width l.size.half l.fn.own l.other l.n) l.fn.own l.own;
  inside : l.x ≤ l.size.width;
}
