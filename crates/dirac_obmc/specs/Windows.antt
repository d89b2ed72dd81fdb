-- Rows of places of a plane.
use Rattle.std.specs.Prelude.{◌≡◌, ℕ, ◌%◌, ◌≤◌}
use Rattle.dirac_common.specs.declared.limits.TheConstants.{LARGEST_SIDE}
use Rattle.dirac_obmc.specs.declared.values.Window.{Window}

-- a window of that many places
pub record IsWindow (len : ℕ) (w : Window) : Type 0 where
  pub x : w.x ≤ LARGEST_SIDE
  pub y : w.y ≤ LARGEST_SIDE
  pub some : 1 ≤ w.width
  pub whole_rows : len % w.width ≡ 0
  pub at_most_4096 : len ≤ LARGEST_SIDE
