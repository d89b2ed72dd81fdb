use Rattle.std.proofs.Common.{◌≡◌, ◌≤◌, ◌+◌, ◌-◌, length}
use Rattle.std.specs.Io.KnownBytes.{Keeps, prepend_known}
use Rattle.dirac_ahead.proofs.units.read_units.Given as goal

abbrev pub invariant-units : goal.invariant-units
invariant-units g l = record {
  no_byte_lost : Keeps (prepend_known l.initial.bytes.items (g.S.Source.held l.initial.source)) (prepend_known l.bytes.items (g.S.Source.held l.source));
  whole_units_held : l.whole ≤ length l.bytes.items;
  at_most_the_plan : length l.bytes.items ≤ l.plan.most;
  left_never_rises : length l.bytes.items + g.S.Source.left l.source ≤ length l.initial.bytes.items + g.S.Source.left l.initial.source;
  never_shorter : length l.initial.bytes.items ≤ length l.bytes.items;
  none_taken : length l.bytes.items ≡ length l.initial.bytes.items → g.S.Source.left l.source ≡ g.S.Source.left l.initial.source;
  faults_never_fall : g.S.Source.faults l.initial.source ≤ g.S.Source.faults l.source;
}

abbrev pub decreases-units : goal.decreases-units
decreases-units g l = l.plan.most - length l.bytes.items
