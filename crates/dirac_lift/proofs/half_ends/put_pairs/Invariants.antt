use Rattle.std.proofs.Common.{◌*◌, length}
use Rattle.dirac_lift.specs.Lifting.{rounded}
use Rattle.dirac_lift.proofs.PairLemmas.{PairsPut}
use Rattle.dirac_lift.proofs.half_ends.put_pairs.Given as goal

abbrev pub invariant-eights : goal.invariant-eights
invariant-eights l = PairsPut (rounded l.shift) l.low l.high l.line (length l.fn.line) (l.i * 8)

abbrev pub invariant-left : goal.invariant-left
invariant-left l = PairsPut (rounded l.shift) l.low l.high l.line (length l.fn.line) l.n
