use Rattle.std.proofs.Common.{◌≡◌, ◌≤◌, drop, map}
use Rattle.dirac_edit.specs.Merged.{length_behind, moved_on, units_behind}
use Rattle.dirac_edit.proofs.Written.{IsWritten}
use Rattle.dirac_edit.proofs.joining.put_units.Given as goal

abbrev pub invariant-loop-picture : goal.invariant-loop-picture
invariant-loop-picture g l = record {
  written : IsWritten (units_behind l.initial.previous (map (moved_on l.way) l.pictures)) (units_behind l.previous (map (moved_on l.way) (drop l.picture-index l.pictures))) (g.K.Sink.taken l.initial.out) (g.K.Sink.taken l.out);
  last : length_behind l.initial.previous (map (moved_on l.way) l.pictures) ≡ length_behind l.previous (map (moved_on l.way) (drop l.picture-index l.pictures));
  count : g.K.Sink.faults l.initial.out ≤ g.K.Sink.faults l.out;
}
