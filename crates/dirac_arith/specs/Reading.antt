-- A decoder as its callers see it, and what it is to read decisions.
use Rattle.std.specs.Prelude.{◌≡◌, ◌<◌, ℕ, List, length}
use Rattle.dirac_arith.specs.Interval.{Decision, Interval, narrowed_by}
use Rattle.dirac_arith.specs.Carried.{Lies}

-- the block that is read, and the interval of what was read of it
pub record Reading : Type 0 where
  pub block : List ℕ
  pub at : Interval

-- from the one state to the other these decisions were read, each the one that the block allows
pub record DecisionsAreRead (old : Reading) (ds : List Decision) (new : Reading) : Type 0 where
  pub moved : new ≡ record { block = old.block; at = narrowed_by old.at ds }
  pub lies : 0 < length ds → Lies old.block (narrowed_by old.at ds)
