use Rattle.std.proofs.Common.{◌≡◌, ◌*◌, ◌≤◌}
use Rattle.dirac_costs.specs.Sums.{sum_below}
use Rattle.dirac_decide.specs.Given.{deciding_of}
use Rattle.dirac_decide.specs.Modes.{choice_of}
use Rattle.dirac_decide.specs.Rooms.{IsRoomForUnits}
use Rattle.dirac_decide.specs.Splits.{UnitsChosen, unit_in}
use Rattle.dirac_decide.proofs.splits.split_below.Given as goal

abbrev pub invariant-loop-k : goal.invariant-loop-k
invariant-loop-k l = record {
  units_fit : IsRoomForUnits (deciding_of l.inputs) l.split l.units;
  at_most : l.cost ≤ 536870912 * l.k;
  cost : l.cost ≡ sum_below (λ k. (choice_of (deciding_of l.inputs) (unit_in l.split l.sx l.sy k)).cost) l.k;
  chosen : UnitsChosen (deciding_of l.inputs) l.sx l.sy l.split l.k l.units;
}
