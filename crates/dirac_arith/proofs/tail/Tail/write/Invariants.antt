use Rattle.std.proofs.Common.{◌≡◌, ◌+◌, ◌*◌, ◌^◌, ◌<◌, ◌≤◌, length}
use Rattle.dirac_arith.specs.Tail.{bytes_from}
use Rattle.dirac_arith.proofs.tail.Tail.write.Given as goal

abbrev pub invariant-writing : goal.invariant-writing
invariant-writing l =
    record {
      value : bytes_from 0 l.self-inside.bytes.items * 2 ^ (16 + l.self-inside.pending) + l.self-inside.register ≡ l.fn.self.value;
      doublings : 8 * length l.self-inside.bytes.items + l.self-inside.pending ≡ l.fn.self.doublings;
      register : l.self-inside.register < 2 ^ (16 + l.self-inside.pending);
      pending : l.self-inside.pending ≤ 47;
    }

abbrev pub decreases-writing : goal.decreases-writing
decreases-writing l = l.self-inside.pending
