-- Tables that are held in 32 bits or wide.
use Rattle.dirac_common.specs.Table.{Table}
use Rattle.dirac_lift.specs.declared.held.Held.{Held}
use Rattle.dirac_lift.specs.declared.held.Held.TheVariants.{Narrow, Wide}

-- the table that is held
abbrev pub held_plane : Held → Table
held_plane (Wide t) = t
held_plane (Narrow t) = t
