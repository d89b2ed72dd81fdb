use Rattle.std.proofs.Common.{◌≡◌, ◌≤◌, drop}
use Rattle.dirac_edit.specs.Kept.{all_of, kept_of, walked_from}
use Rattle.dirac_edit.proofs.part.sequences_of.Given as goal

abbrev pub invariant-loop-index : goal.invariant-loop-index
invariant-loop-index l = record {
  at_most_one_a_unit : l.walk.points ≤ l.index;
  so : kept_of l.part l.units ≡ all_of (walked_from l.part l.index l.walk (drop l.index l.units));
}
