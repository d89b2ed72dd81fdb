use Rattle.std.proofs.Common.{◌+◌, ◌-◌, ◌≤◌}
use Rattle.dirac_units.specs.Taking.{TakesPayload}
use Rattle.dirac_units.proofs.take.take_payload.Given as goal

abbrev pub invariant-pieces : goal.invariant-pieces
invariant-pieces g l = record {
  taken : TakesPayload (l.count - l.rest) l.keep l.payload.items (g.S.Source.held l.initial.source) (g.S.Source.held l.source);
  rest : l.rest ≤ l.count;
  left : (l.count - l.rest) + g.S.Source.left l.source ≤ g.S.Source.left l.initial.source;
  count : g.S.Source.faults l.initial.source ≤ g.S.Source.faults l.source;
}

abbrev pub decreases-pieces : goal.decreases-pieces
decreases-pieces g l = l.rest
