-- How far a position lies behind its places.
use Rattle.std.specs.Prelude.{◌≤◌}
use Rattle.dirac_upconvert.specs.declared.rows.Rests.{Rests}
use Rattle.dirac_upconvert.specs.SubSamples.{IsRest}

-- at most four positions to a place, and the position lies before the next place
pub record AreRests (r : Rests) : Type 0 where
  pub bits : r.bits ≤ 2
  pub right : IsRest r.bits r.right
  pub below : IsRest r.bits r.below
