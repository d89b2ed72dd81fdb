-- The last level of a plane, before it is synthesised, and rows that are made of it.
use Rattle.std.specs.Prelude.{ℕ, ℤ, ◌+◌, ◌*◌, ◌/◌, ◌≤◌, List, unsigned_abs}
use Rattle.std.specs.List.{All}
use Rattle.dirac_common.specs.declared.limits.TheConstants.{LARGEST_NARROW, LARGEST_SIDE}
use Rattle.dirac_common.specs.Limits.{IsWavelet}
use Rattle.dirac_common.specs.Table.{Table}
use Rattle.dirac_lift.specs.declared.half_levels.LinesAtWork.{LinesAtWork}
use Rattle.dirac_lift.specs.AtWork.{HasGiven, IsAtWork}
use Rattle.dirac_lift.specs.Level.{synthesised}
use Rattle.dirac_synthesis.specs.declared.last.LastLevel.{LastLevel}
use Rattle.dirac_synthesis.specs.Codeblocks.{restored_by_one}
use Rattle.dirac_synthesis.specs.Halves.{beside}
use Rattle.dirac_synthesis.specs.Levels.{joined_by}
use Rattle.dirac_synthesis.specs.NarrowLevels.{IsNarrowLevel}
use Rattle.dirac_synthesis.specs.Residual.{cut}

-- the residual that a last level comes to
abbrev pub last_residual : LastLevel → Table
last_residual l = cut l.width l.height (synthesised l.wavelet (joined_by (restored_by_one l.kind) l.low l.bands))

-- a last level of which rows can be made
pub record IsLastLevel (l : LastLevel) : Type 0 where
  pub wavelet : IsWavelet l.wavelet
  pub level : IsNarrowLevel l.kind l.low l.bands
  pub small : All (λ v. unsigned_abs v ≤ LARGEST_NARROW) l.low.values
  pub columns : l.low.width ≤ LARGEST_SIDE
  pub pairs : l.low.height ≤ LARGEST_SIDE
  pub across : (1 ≤ l.width) × (l.width ≤ 2 * l.low.width)
  pub down : (1 ≤ l.height) × (l.height ≤ 2 * l.low.height)

-- the even rows of a last level's plane and its odd ones, in halves
abbrev pub even_halves : LastLevel → List ℤ
even_halves l = (beside l.low (restored_by_one l.kind l.bands.hl.now)).values

abbrev pub odd_halves : LastLevel → List ℤ
odd_halves l = (beside (restored_by_one l.kind l.bands.lh.now) (restored_by_one l.kind l.bands.hh.now)).values

-- a last level at work that has made its first y rows
pub record HasMade (l : LastLevel) (y : ℕ) (lines : LinesAtWork) : Type 0 where
  pub at_work : IsAtWork (even_halves l) (odd_halves l) lines
  pub given : HasGiven l.wavelet (2 * l.low.width) l.low.height ((y + 1) / 2) lines
