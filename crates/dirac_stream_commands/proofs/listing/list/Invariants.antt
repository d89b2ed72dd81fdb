use Rattle.std.proofs.Common.{◌≡◌, ◌+◌, ◌-◌, ◌^◌, ◌<◌, ◌≤◌, length}
use Rattle.dirac_units.specs.declared.unit.StreamEnd.TheVariants as stream_end
use Rattle.dirac_stream_commands.proofs.Listed.{ListsSoFar}
use Rattle.dirac_stream_commands.proofs.ListedRead.{ReadsSoFar}
use Rattle.dirac_stream_commands.proofs.listing.list.Given as goal

-- the units so far are listed, and nothing was met
abbrev pub invariant-units : goal.invariant-units
invariant-units g l =
    ListsSoFar l.units (g.S.Source.held l.initial.source) (g.S.Source.held l.source) (g.K.Sink.taken l.initial.out) (g.K.Sink.taken l.out)
    × (l.units.stream_end ≡ stream_end.Going)
    × (l.units.unit_place.at + length l.units.ahead + g.S.Source.left l.source < 2 ^ 63)
    × (g.S.Source.faults l.initial.source ≤ g.S.Source.faults l.source)
    × (g.K.Sink.faults l.initial.out ≤ g.K.Sink.faults l.out)
    × ReadsSoFar l.units (g.S.Source.held l.initial.source) (g.S.Source.held l.source) (g.K.Sink.taken l.initial.out) (g.K.Sink.taken l.out)

abbrev pub decreases-units : goal.decreases-units
decreases-units g l = 2 ^ 63 - l.units.unit_place.at
