use Rattle.std.proofs.Common.{◌≡◌, ◌+◌, ◌-◌, ◌*◌, ◌^◌, ◌<◌, ◌≤◌, false, Ok}
use Rattle.dirac_arith.specs.Deciding.{decision_read, number_from_digit, number_read}
use Rattle.dirac_arith.specs.Reading.{Reading}
use Rattle.dirac_arith.specs.Spelling.{follow_at}
use Rattle.dirac_arith.proofs.decoder.Decoder.magnitude_behind.Given as goal

abbrev pub invariant-digits : goal.invariant-digits
invariant-digits l =
    record {
      reads : (before : Reading) → decision_read (follow_at l.follow 0) before ≡ Ok (false, l.fn.self)
          → number_read l.follow l.bits before ≡ number_from_digit l.follow l.bits l.i (38 - l.i) l.value l.self;
      start : 1 ≤ l.i;
      some : 2 ≤ l.value;
      below : l.value < 2 ^ (l.i + 1);
      room : l.self.at.doublings + 9 ≤ l.fn.self.at.doublings + 18 * l.i;
    }
