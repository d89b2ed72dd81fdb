-- The points of a cut that words say.
use Rattle.std.specs.Prelude.{ℕ, Bool, ◌&&◌, if◌then◌else◌, List, codes, Option, None, Some, is_none, is_some}
use Rattle.dirac_command_line.specs.declared.points.Points.{Points}
use Rattle.dirac_command_line.specs.Options.{point_in}

-- no word said one
abbrev pub none_given : Points
none_given = record { from = None; to = None }

-- a word gives a point behind this front, and none is given yet
abbrev pub is_new : List ℕ → List ℕ → Option ℕ → Bool
is_new front word given = is_some (point_in front word) && is_none given

-- the points behind one word more: each is said at most once
abbrev pub points_with : Points → List ℕ → Option Points
points_with p word =
    if is_new (codes "--from=") word p.from then
    Some (record { from = point_in (codes "--from=") word; to = p.to })
    else if is_new (codes "--to=") word p.to then
    Some (record { from = p.from; to = point_in (codes "--to=") word })
    else None
