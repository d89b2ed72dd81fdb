use Rattle.std.proofs.Common.{◌≡◌, ◌+◌, ◌-◌, ◌<◌, ◌^◌, []}
use Rattle.dirac_io.specs.Memory.{count_left}
use Rattle.dirac_units.specs.declared.unit.StreamEnd.TheVariants as stream_end
use Rattle.dirac_edit.proofs.Following.{Reaches}
use Rattle.dirac_edit.proofs.check.check.Given as goal

abbrev pub invariant-units : goal.invariant-units
invariant-units l = record {
  reaches : Reaches l.bytes l.units.unit_place l.source l.course;
  none_ahead : l.units.ahead ≡ [];
  going : l.units.stream_end ≡ stream_end.Going;
  fits : l.units.unit_place.at + count_left l.source < 2 ^ 63;
}

abbrev pub decreases-units : goal.decreases-units
decreases-units l = 2 ^ 63 - l.units.unit_place.at
