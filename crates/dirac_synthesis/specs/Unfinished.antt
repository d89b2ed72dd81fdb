-- The residual of a plane whose last level may still be to be synthesised.
use Rattle.std.specs.Prelude.{◌≡◌, ◌*◌, ◌^◌, ◌≤◌, length, unsigned_abs}
use Rattle.std.specs.List.{All}
use Rattle.dirac_common.specs.declared.limits.TheConstants.{LARGEST_TABLE_SIDE}
use Rattle.dirac_common.specs.Table.{Table}
use Rattle.dirac_synthesis.specs.declared.unfinished.Part.{Part}
use Rattle.dirac_synthesis.specs.declared.unfinished.Part.TheVariants.{Lines, Whole, Zeros}
use Rattle.dirac_synthesis.specs.LastLevel.{IsLastLevel, last_residual}
use Rattle.dirac_synthesis.specs.Zeros.{zeros}

-- the residual that it comes to
abbrev pub part_table : Part → Table
part_table (Zeros extent) = zeros extent.width extent.height
part_table (Whole t) = t
part_table (Lines l) = last_residual l

-- rows of a last level that waits can be made
abbrev pub CanMakeRows : Part → Type 0
CanMakeRows (Zeros extent) = Unit {0}
CanMakeRows (Whole t) = Unit {0}
CanMakeRows (Lines l) = IsLastLevel l

-- what a residual of which something is made is, whatever its values
pub record IsUnfinishedPart (p : Part) : Type 0 where
  pub rows : CanMakeRows p
  pub across : (1 ≤ (part_table p).width) × ((part_table p).width ≤ LARGEST_TABLE_SIDE)
  pub down : (1 ≤ (part_table p).height) × ((part_table p).height ≤ LARGEST_TABLE_SIDE)
  pub whole : length (part_table p).values ≡ (part_table p).width * (part_table p).height
  pub bound : All (λ v. unsigned_abs v ≤ 2 ^ 108) (part_table p).values
