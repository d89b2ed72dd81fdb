use Rattle.std.proofs.Common.{◌≤◌}
use Rattle.dirac_edit.proofs.Stepping.{IsHere}
use Rattle.dirac_edit.proofs.joining.put_joined.Given as goal

abbrev pub invariant-loop-sequence : goal.invariant-loop-sequence
invariant-loop-sequence g l = record {
  here : IsHere l.sequences l.progress l.sequence-index (g.K.Sink.taken l.initial.out) (g.K.Sink.taken l.out);
  count : g.K.Sink.faults l.initial.out ≤ g.K.Sink.faults l.out;
}
