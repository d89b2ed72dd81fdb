use Rattle.std.proofs.Common.{◌^◌, take}
use Rattle.std.specs.List.{All, flat_map}
use Rattle.dirac_search.specs.Candidates.{IsWithinReach, around}
use Rattle.dirac_search.specs.Choices.{ChoosesAs}
use Rattle.dirac_search.proofs.around.push_round_each.Given as goal

abbrev pub invariant-loop-k : goal.invariant-loop-k
invariant-loop-k l = record {
  same : ChoosesAs l.list (flat_map (λ c. around c 1) (take l.k l.centres));
  within : All (IsWithinReach (2 ^ 24)) l.list;
}
