use Rattle.std.proofs.Common.{◌≡◌, ◌≤◌}
use Rattle.dirac_refs.specs.Delivery.{least_among}
use Rattle.dirac_refs.proofs.delivery.least_of.Given as goal

abbrev pub invariant-loop-n : goal.invariant-loop-n
invariant-loop-n l = record { least : l.best ≡ least_among l.list l.n; inside : l.best ≤ l.n }
