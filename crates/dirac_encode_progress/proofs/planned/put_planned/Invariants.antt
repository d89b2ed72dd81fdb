use Rattle.std.proofs.Common.{◌≡◌, ◌≤◌, length, true}
use Rattle.dirac_encode_laws.specs.Fit.{rule_of}
use Rattle.dirac_encode_progress.specs.Going.{LeadsOn, PlanIsListed, so_far}
use Rattle.dirac_encode_progress.proofs.planned.put_planned.Given as goal

abbrev pub invariant-planned : goal.invariant-planned
invariant-planned g l = record {
  led : LeadsOn (rule_of l.coder.budget) l.coder.settings.now l.ended l.initial.planner l.planner (so_far l.initial.coding) (so_far l.coding) (g.K.Sink.taken l.initial.out) (g.K.Sink.taken l.out) (g.N.Sink.taken l.initial.side) (g.N.Sink.taken l.side);
  lists : PlanIsListed l.coder.settings.now l.ended l.planner (so_far l.coding);
  settings : l.planner.settings ≡ l.coder.settings.now;
  accepted : l.planner.accepted ≡ l.initial.planner.accepted;
  ended : l.planner.ended ≡ true → l.ended ≡ true;
  writes : g.K.Sink.faults l.initial.out ≤ g.K.Sink.faults l.out;
  sides : g.N.Sink.faults l.initial.side ≤ g.N.Sink.faults l.side;
}

abbrev pub decreases-planned : goal.decreases-planned
decreases-planned g l = length l.planner.waiting
