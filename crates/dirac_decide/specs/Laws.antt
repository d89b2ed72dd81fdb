-- What the definitions mean.
use Rattle.std.specs.List.{All}
use Rattle.dirac_block_table.specs.Tables.{IsBlockTable}
use Rattle.dirac_decide.specs.Deciding.{Deciding}
use Rattle.dirac_decide.specs.Modes.{HasDcSamples}
use Rattle.dirac_decide.specs.Splits.{decided}

-- the table is one that a picture can have, and its DC values are samples
pub record IsLawfulDecision (d : Deciding) : Type 0 where
  pub table : IsBlockTable (decided d)
  pub samples : All HasDcSamples (decided d).blocks
