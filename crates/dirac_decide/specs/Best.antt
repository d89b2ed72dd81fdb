-- What is decided for a superblock, and for a row of them.
use Rattle.std.specs.Prelude.{◌≡◌, ℕ, ◌^◌, ◌≤◌, List}
use Rattle.dirac_rows.specs.Answers.{AnswerRows}
use Rattle.dirac_decide.specs.Deciding.{Deciding}
use Rattle.dirac_decide.specs.Rooms.{IsRoomForUnits}
use Rattle.dirac_decide.specs.Splits.{UnitsChosen, best_split}
use Rattle.dirac_decide.specs.declared.superblock.BestSplit.{BestSplit}

-- this is the best split of superblock sx of row sy, and the units of this split have their blocks of least cost
pub record IsBestSplit (d : Deciding) (sx sy : ℕ) (b : BestSplit) : Type 0 where
  pub at_most_2 : b.split ≤ 2
  pub best : best_split d sx sy ≡ b.split
  pub units : UnitsChosen d sx sy b.split (4 ^ b.split) b.units.items
  pub room : IsRoomForUnits d b.split b.units.items

-- these are the best splits of all superblocks of row sy, with the blocks of their units
abbrev pub IsBestRow : Deciding → ℕ → List BestSplit → Type 0
IsBestRow d sy row = AnswerRows (λ sx. IsBestSplit d sx sy) d.across row
