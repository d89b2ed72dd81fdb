use Rattle.std.proofs.Common.{◌≤◌, length}
use Rattle.dirac_encode_progress.proofs.Waiting.{Flushes}
use Rattle.dirac_encode_progress.proofs.delivering.put_waiting.Given as goal

abbrev pub invariant-waiting : goal.invariant-waiting
invariant-waiting g l = record {
  flushes : Flushes l.initial.delivery l.delivery (g.N.Sink.taken l.initial.side) (g.N.Sink.taken l.side);
  count : g.N.Sink.faults l.initial.side ≤ g.N.Sink.faults l.side;
}

abbrev pub decreases-waiting : goal.decreases-waiting
decreases-waiting g l = length l.delivery
