use Rattle.std.proofs.Common.{◌≡◌, ◌≤◌, ◌+◌, ◌-◌, length, take}
use Rattle.std.specs.Io.KnownBytes.{Consumes}
use Rattle.dirac_io.proofs.filling.fill.Given as goal

abbrev pub invariant-filling : goal.invariant-filling
invariant-filling g l = record {
  consumed : Consumes (g.S.Source.held l.initial.source) (g.S.Source.held l.source) (take l.filled l.buf);
  size : length l.buf ≡ length l.initial.buf;
  fits : l.filled ≤ length l.buf;
  count : g.S.Source.faults l.initial.source ≤ g.S.Source.faults l.source;
  left : l.filled + g.S.Source.left l.source ≤ g.S.Source.left l.initial.source;
}

abbrev pub decreases-filling : goal.decreases-filling
decreases-filling g l = length l.buf - l.filled
