use Rattle.std.proofs.Common.{◌≡◌, ◌+◌, ◌-◌, ◌*◌, ◌^◌, ◌≤◌, length}
use Rattle.dirac_arith.specs.Tail.{bytes_from}
use Rattle.dirac_arith.proofs.tail.carry.Given as goal

abbrev pub invariant-carrying : goal.invariant-carrying
invariant-carrying l =
    record {
      inside : l.place ≤ length l.bytes;
      same : length l.bytes ≡ length l.fn.bytes;
      sum : bytes_from 0 l.bytes + 2 ^ (8 * (length l.bytes - l.place)) ≡ bytes_from 0 l.fn.bytes + 1;
    }

abbrev pub decreases-carrying : goal.decreases-carrying
decreases-carrying l = l.place
