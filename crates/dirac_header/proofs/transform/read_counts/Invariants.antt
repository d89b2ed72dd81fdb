use Rattle.std.proofs.Common.{◌≡◌, ◌+◌, ◌-◌, [], length}
use Rattle.dirac_bits.specs.Syntax.{read}
use Rattle.dirac_header.specs.Transform.{counts_behind}
use Rattle.dirac_header.proofs.transform.read_counts.Given as goal

abbrev pub invariant-levels : goal.invariant-levels
invariant-levels l =
    (length l.counts ≡ l.level)
    × (l.r.bytes ≡ l.fn.r.bytes)
    × (read (counts_behind l.width l.height l.depth l.counts (l.depth + 1 - l.level)) l.r ≡ read (counts_behind l.width l.height l.depth [] (l.depth + 1)) l.fn.r)
