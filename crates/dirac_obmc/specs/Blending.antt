-- What the blocks of a plane are summed over.
use Rattle.dirac_obmc.specs.declared.rows.Columns.{Columns}
use Rattle.dirac_obmc.specs.declared.rows.Lines.{Lines}
use Rattle.dirac_obmc.specs.Compensation.{Compensation, IsCompensation}
use Rattle.dirac_obmc.specs.Directions.{IsColumns, IsSoundCompensation}
use Rattle.dirac_obmc.specs.Strips.{IsLines}

-- a motion within its limits, and the blocks from left to right and from top to bottom with their weights
pub record IsBlending (m : Compensation) (c : Columns) (l : Lines) : Type 0 where
  pub motion : IsCompensation m
  pub sound : IsSoundCompensation m
  pub columns : IsColumns m c
  pub lines : IsLines m l
