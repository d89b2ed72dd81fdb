use Rattle.std.proofs.Common.{◌≡◌, ◌≤◌, ◌+◌, ◌-◌, length, false}
use Rattle.std.specs.Prelude.{IfSome}
use Rattle.dirac_sources.specs.Sources.{raw_length}
use Rattle.dirac_plan.specs.Planning.{is_closed, waiting_places}
use Rattle.dirac_encode_laws.specs.Fit.{rule_of}
use Rattle.dirac_encode_progress.specs.Going.{PlanIsListed, so_far}
use Rattle.dirac_encode_progress.proofs.OfRead.{Alone}
use Rattle.dirac_encode_progress.proofs.Reading.{SoFar}
use Rattle.dirac_encode_progress.proofs.pictures.put_pictures.Given as goal

abbrev pub invariant-pictures : goal.invariant-pictures
invariant-pictures g l = record {
  runs : SoFar (rule_of l.coder.budget) l.coder.settings.now (g.S.Source.held l.initial.source) l.planner (so_far l.coding) (g.S.Source.held l.source) (g.K.Sink.taken l.initial.out) (g.K.Sink.taken l.out) (g.N.Sink.taken l.initial.side) (g.N.Sink.taken l.side);
  alone : IfSome (g.S.Source.held l.initial.source) (λ bytes. Alone (rule_of l.coder.budget) l.coder.settings.now bytes l.planner (so_far l.coding) (g.S.Source.held l.source) (g.K.Sink.taken l.initial.out) (g.K.Sink.taken l.out) (g.N.Sink.taken l.initial.side) (g.N.Sink.taken l.side));
  lists : PlanIsListed l.coder.settings.now false l.planner (so_far l.coding);
  settings : l.planner.settings ≡ l.coder.settings.now;
  going : l.planner.ended ≡ false;
  opened : is_closed l.planner ≡ false;
  counts : l.planner.accepted ≡ l.planner.given + length l.planner.waiting;
  fit : length l.planner.waiting ≤ waiting_places l.planner.settings;
  in_range : l.planner.accepted ≤ l.coder.settings.now.pictures;
  size : length l.bytes ≡ raw_length l.coder.settings.now;
  reads : g.S.Source.faults l.initial.source ≤ g.S.Source.faults l.source;
  writes : g.K.Sink.faults l.initial.out ≤ g.K.Sink.faults l.out;
  sides : g.N.Sink.faults l.initial.side ≤ g.N.Sink.faults l.side;
}

abbrev pub decreases-pictures : goal.decreases-pictures
decreases-pictures g l = l.coder.settings.now.pictures - l.planner.accepted
