use Rattle.std.proofs.Common.{◌≡◌, ◌+◌, ◌≤◌, drop}
use Rattle.dirac_edit_laws.specs.Texts.{points_of}
use Rattle.dirac_edit.proofs.bounds.points_of.Given as goal

abbrev pub invariant-loop-unit : goal.invariant-loop-unit
invariant-loop-unit l = record {
  at_most_one_a_unit : l.points ≤ l.unit-index;
  so : l.points + points_of (drop l.unit-index l.units) ≡ points_of l.units;
}
