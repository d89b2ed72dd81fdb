use Rattle.std.proofs.Common.{◌≡◌, take}
use Rattle.std.specs.List.{filter}
use Rattle.dirac_inside.specs.Inside.{vector_times}
use Rattle.dirac_inside.specs.Ranges.{is_in}
use Rattle.dirac_search.proofs.kept.push_inside.Given as goal

abbrev pub invariant-loop-k : goal.invariant-loop-k
invariant-loop-k l = l.kept ≡ filter (λ v. is_in l.range (vector_times l.count v)) (take l.k l.list)
