-- What a writer holds where memory ran out.
use Rattle.std.specs.Prelude.{◌≡◌, Bool, List, ◌++◌}

-- of `all`, which were to stand: what stood before still stands, with a front of the new bits behind it
pub record HoldsFront (old new all : List Bool) : Type 0 where
  pub front : List Bool
  pub rest : List Bool
  pub grown : new ≡ old ++ front
  pub parts : all ≡ old ++ front ++ rest
